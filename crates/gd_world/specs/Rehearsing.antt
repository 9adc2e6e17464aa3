-- How rehearsals and churns end.
use Rattle.gd_outside.specs.declared.status.Status.{Status}
use Rattle.gd_outside.specs.declared.status.Status.TheVariants.{Done, ReadFault, WriteFault, NoMemory, LineLimit}

-- the statuses that a rehearsal ends with
abbrev pub IsRehearsalEnd : Status → Type 0
IsRehearsalEnd Done = Unit {0}
IsRehearsalEnd ReadFault = Unit {0}
IsRehearsalEnd WriteFault = Unit {0}
IsRehearsalEnd NoMemory = Unit {0}
IsRehearsalEnd LineLimit = Unit {0}
IsRehearsalEnd other = ⊥

-- those of a churn, which reads nothing
abbrev pub IsChurnEnd : Status → Type 0
IsChurnEnd Done = Unit {0}
IsChurnEnd WriteFault = Unit {0}
IsChurnEnd NoMemory = Unit {0}
IsChurnEnd other = ⊥
