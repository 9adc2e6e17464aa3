-- Why there is no going on from a journal.
use Rattle.std.specs.Prelude.{◌≡◌, Bool, true, false}
use Rattle.gd_base.specs.declared.fault.LogWhy.{LogWhy}
use Rattle.gd_base.specs.declared.fault.LogWhy.TheVariants.{Short}
use Rattle.gd_logs.specs.declared.log.ReadError.{ReadError}
use Rattle.gd_logs.specs.declared.log.ReadError.TheVariants.{Memory, Log}
use Rattle.gd_logs.specs.declared.stopped.LogFault.TheVariants as log
use Rattle.gd_reference.specs.Rejoin as rejoin
use Rattle.gd_reference.specs.Rejoin.{Found, Faulty}
use Rattle.gd_rejoin.specs.declared.fault.ResumeFault.{ResumeFault}
use Rattle.gd_rejoin.specs.declared.fault.ResumeFault.TheVariants.{Journal, Bad, Other, NoMemory}

-- a fault of reading a log, as one of going on
abbrev pub fault_of : ReadError → ResumeFault
fault_of Memory = NoMemory
fault_of (Log log.Read) = Journal
fault_of (Log (log.Bad at why)) = Bad at why

-- what is found in the contents is the fault, or memory ran out
abbrev pub IsFound : ResumeFault → Found → Type 0
IsFound Journal f = ⊥
IsFound (Bad at why) f = f ≡ Faulty at why
IsFound (Other other) f = f ≡ rejoin.Other other
IsFound NoMemory f = Unit {0}

-- the same, or a call on the journal failed
abbrev pub IsFoundOrFailed : ResumeFault → Found → Type 0
IsFoundOrFailed Journal f = Unit {0}
IsFoundOrFailed fault f = IsFound fault f

-- whether bytes are missing
abbrev pub is_short_why : LogWhy → Bool
is_short_why Short = true
is_short_why other = false

abbrev pub is_short : ResumeFault → Bool
is_short (Bad at why) = is_short_why why
is_short other = false

-- reading the contents fails by the journal or for want of memory alone
abbrev pub IsReadFault : ResumeFault → Type 0
IsReadFault Journal = Unit {0}
IsReadFault (Bad at why) = ⊥
IsReadFault (Other other) = ⊥
IsReadFault NoMemory = Unit {0}
