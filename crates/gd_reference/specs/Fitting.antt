-- How many events a frame takes: as many of the first ones as fit, and one in any case. One sound event always fits.
use Rattle.std.specs.Prelude.{ℕ, suc, ◌-◌, ◌≤◌, min, max, List, [], ◌∷◌, length, take, drop, nat_le, if◌then◌else◌}
use Rattle.gd_base.specs.declared.op.Op.TheVariants.{Restore, Disband}
use Rattle.gd_events.specs.Events.{Event}
use Rattle.gd_events.specs.Ops.{Op}
use Rattle.gd_grammar.specs.Drawings.{spelling}
use Rattle.gd_grammar.specs.declared.sizes.TheConstants.{FRAME_ROOM}

-- how many of these events, from the first on, have bytes that fit into so much room
unfoldable pub fitting : ℕ → List Event → ℕ
fitting room [] = 0
fitting room (e ∷ es) = if nat_le (length (spelling e)) room then suc (fitting (room - length (spelling e)) es) else 0

abbrev pub frame_room : ℕ
frame_room = FRAME_ROOM

-- how many of these events a frame takes, where there are as many
unfoldable pub frame_count : List Event → ℕ
frame_count es = max 1 (fitting frame_room es)

-- the events of a frame that has these to bring
abbrev pub in_a_frame : List Event → List Event
in_a_frame es = take (frame_count es) es

-- each frame that brings the events from some place on takes at least so many of them, or all
abbrev pub Carries : ℕ → List Event → Type 0
Carries least es = (place : ℕ) → min least (length (drop place es)) ≤ frame_count (drop place es)

-- an operation without ties: neither an object as it was nor the end of a group, which only an undo or a redo makes
abbrev pub HasNoTies : Op → Type 0
HasNoTies (Restore id object ties) = ⊥
HasNoTies (Disband id ties) = ⊥
HasNoTies other = Unit {0}
