-- What takes events back, as contracts see it.
use Rattle.std.specs.Prelude.{ℕ, List, [], ◌∷◌, length, reverse, Option, None, Some, Vec}
use Rattle.std.specs.declared.alloc.Global.{Global}
use Rattle.gd_events.specs.Ops.{Op}

-- the operations of a vector, the last one first
abbrev pub newest_first : Vec Op Global → List Op
newest_first ops = reverse ops.items

-- how many there are in the first list
abbrev pub count_of : List (List Op) → Option ℕ
count_of [] = None
count_of (ops ∷ more) = Some (length ops)
