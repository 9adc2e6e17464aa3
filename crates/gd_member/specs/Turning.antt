-- What comes of an undo, or a redo.
use Rattle.std.specs.Prelude.{◌≡◌, ◌+◌, ℕ, Bool, true, false, List, Result, Ok, Err, length}
use Rattle.gd_events.specs.Events.{Event}
use Rattle.gd_reference.specs.TakeBack.{BackRefusal}
use Rattle.gd_takeback.specs.Answers.{PaysFor, TurnIs}
use Rattle.gd_takeback.specs.declared.take_back.BackFault.{BackFault}
use Rattle.gd_takeback.specs.declared.take_back.BackFault.TheVariants.{NoMemory}

-- the answer to one that comes to this: of how many events it is, or why it is refused, or that memory ran out
abbrev pub CountIs : Result (List Event) BackRefusal → Result ℕ BackFault → Type 0
CountIs r (Ok count) = (es : List Event) × (r ≡ Ok es) × (count ≡ length es)
CountIs r (Err fault) = TurnIs r (Err fault)

-- The steps of so many events: one for each; none where they are refused; and where memory ran out a part of those that
-- they may be at most.
abbrev pub PaysCount : ℕ → Result ℕ BackFault → ℕ → ℕ → Type 0
PaysCount most (Ok count) before after = after ≡ before + count
PaysCount most (Err fault) before after = PaysFor most (Err fault) before after

-- where it is refused, for another cause than want of memory
abbrev pub OnRefused : Result ℕ BackFault → Type 0 → Type 0
OnRefused (Ok count) P = Unit {0}
OnRefused (Err NoMemory) P = Unit {0}
OnRefused (Err other) P = P

-- it is for want of memory
abbrev pub is_memory : BackFault → Bool
is_memory NoMemory = true
is_memory other = false
