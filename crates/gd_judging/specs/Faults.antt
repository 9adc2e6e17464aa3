-- What an edit is answered, by what it becomes or why it is refused: memory may run out only where it becomes
-- something.
use Rattle.std.specs.Prelude.{◌≡◌, IsOk, Result, Ok, Err}
use Rattle.gd_base.specs.declared.refusal.EditRefusal.{EditRefusal}
use Rattle.gd_judging.specs.declared.faults.EditFault.{EditFault}
use Rattle.gd_judging.specs.declared.faults.EditFault.TheVariants.{Refused, Memory}

abbrev pub EditIs : {T : Type 0} → Result T EditRefusal → Result T EditFault → Type 0
EditIs r (Ok x) = r ≡ Ok x
EditIs r (Err (Refused why)) = r ≡ Err why
EditIs r (Err Memory) = IsOk r
