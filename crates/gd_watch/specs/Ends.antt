-- The statuses that `view` ends with.
use Rattle.gd_outside.specs.declared.status.Status.{Status}
use Rattle.gd_outside.specs.declared.status.Status.TheVariants.{Done, BadView, LineLimit, ReadFault, WriteFault}
use Rattle.gd_outside.specs.declared.status.Status.TheVariants.{NoMemory}

abbrev pub IsViewEnd : Status → Type 0
IsViewEnd Done = Unit {0}
IsViewEnd BadView = Unit {0}
IsViewEnd LineLimit = Unit {0}
IsViewEnd ReadFault = Unit {0}
IsViewEnd WriteFault = Unit {0}
IsViewEnd NoMemory = Unit {0}
IsViewEnd other = ⊥

-- those with which `view` ends where nothing cuts it short
abbrev pub IsShownEnd : Status → Type 0
IsShownEnd Done = Unit {0}
IsShownEnd BadView = Unit {0}
IsShownEnd LineLimit = Unit {0}
IsShownEnd other = ⊥
