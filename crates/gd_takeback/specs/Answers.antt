-- What taking back answers, as what the reference site does.
use Rattle.std.specs.Prelude.{◌≡◌, ◌≤◌, ◌+◌, ℕ, List, [], ◌∷◌, IsOk, Result, Ok, Err, length}
use Rattle.gd_base.specs.Stamps.{Stamp}
use Rattle.gd_base.specs.declared.refusal.EditRefusal.{EditRefusal}
use Rattle.gd_base.specs.declared.refusal.EditRefusal.TheVariants as refusal
use Rattle.gd_events.specs.Events.{Event}
use Rattle.gd_events.specs.Ops.{Op}
use Rattle.gd_reference.specs.TakeBack.{BackRefusal, NothingBack, Refused}
use Rattle.gd_judging.specs.Faults.{EditIs}
use Rattle.gd_site.specs.Judged.{room}
use Rattle.gd_judging.specs.declared.faults.EditFault.{EditFault}
use Rattle.gd_judging.specs.declared.faults.EditFault.TheVariants as edit
use Rattle.gd_takeback.specs.declared.take_back.BackFault.{BackFault}
use Rattle.gd_takeback.specs.declared.take_back.BackFault.TheVariants as fault

-- the stamp of the event that an edit becomes, or why it becomes none
abbrev pub StampIs : Result Event EditRefusal → Result Stamp EditFault → Type 0
StampIs r (Ok stamp) = (e : Event) × (r ≡ Ok e) × (stamp ≡ e.stamp)
StampIs r (Err why) = EditIs r (Err why)

-- the answer to an `undo`, or a `redo`, that comes to this: memory may run out only where it becomes events
abbrev pub TurnIs : Result (List Event) BackRefusal → Result (List Event) BackFault → Type 0
TurnIs r (Ok es) = r ≡ Ok es
TurnIs r (Err fault.Nothing) = r ≡ Err NothingBack
TurnIs r (Err fault.ClockEnd) = r ≡ Err (Refused refusal.ClockEnd)
TurnIs r (Err fault.SessionFull) = r ≡ Err (Refused refusal.SessionFull)
TurnIs r (Err fault.NoMemory) = IsOk r

-- where an edit is refused, for another cause than want of memory
abbrev pub OnRefusal : Result Stamp EditFault → Type 0 → Type 0
OnRefusal (Ok stamp) P = Unit {0}
OnRefusal (Err edit.Memory) P = Unit {0}
OnRefusal (Err (edit.Refused why)) P = P

-- the same of an undo, or a redo
abbrev pub OnBackRefusal : Result (List Event) BackFault → Type 0 → Type 0
OnBackRefusal (Ok es) P = Unit {0}
OnBackRefusal (Err fault.NoMemory) P = Unit {0}
OnBackRefusal (Err other) P = P

-- The steps of events that were made together: one for each; none where they are refused; and where memory ran out of a
-- part of them.
abbrev pub PaysFor : ℕ → Result (List Event) BackFault → ℕ → ℕ → Type 0
PaysFor most (Ok es) before after = after ≡ before + length es
PaysFor most (Err fault.NoMemory) before after = (before ≤ after) × (after ≤ before + most)
PaysFor most (Err other) before after = after ≡ before

-- why there is no room for so many events
abbrev pub room_fault : EditRefusal → BackFault
room_fault refusal.ClockEnd = fault.ClockEnd
room_fault other = fault.SessionFull

abbrev pub or_fault : Result (Unit {0}) EditRefusal → Result (Unit {0}) BackFault
or_fault (Ok is) = Ok is
or_fault (Err why) = Err (room_fault why)

-- whether the first gesture of those that are due may become events, behind that clock and so many own events
abbrev pub may_turn : ℕ → ℕ → List (List Op) → Result (Unit {0}) BackFault
may_turn clock made [] = Err fault.Nothing
may_turn clock made (ops ∷ others) = or_fault (room clock made (length ops))
