-- What the judgement of an edit reads off an object as it is shown.
use Rattle.std.specs.Prelude.{ℤ, ◌&&◌, List, Option, Some, None, Result, Ok, Err, if◌then◌else◌}
use Rattle.std.specs.List.{list_all}
use Rattle.gd_base.specs.Ranges.{place_limit, is_within}
use Rattle.gd_base.specs.Stamps.{Stamp}
use Rattle.gd_base.specs.declared.member.Member.{Member}
use Rattle.gd_base.specs.declared.op.Op.TheVariants.{Group}
use Rattle.gd_base.specs.declared.refusal.EditRefusal.{EditRefusal}
use Rattle.gd_events.specs.Ops.{Op}
use Rattle.gd_events.specs.Sound.{is_shift_in_range}
use Rattle.gd_reference.specs.Judging.{Target, is_free, by_id}
use Rattle.gd_view.specs.declared.places.Shown.{Shown}
use Rattle.gd_judging.specs.declared.groups.Named.{Named}

-- an object as it is shown, as an edit sees it
abbrev pub told : Shown → Target
told s = record { kind = s.kind; above = record { parent = s.parent; dx = s.above.x; dy = s.above.y } }

-- the two parts of a place or of a shift, where both are in their range
abbrev pub in_range : ℤ → ℤ → Option (ℤ × ℤ)
in_range x y = if is_within place_limit x && is_within place_limit y then Some (x, y) else None

-- an object that is shown, where a new group names it
abbrev pub as_named : Stamp × Target → Named
as_named t = record { id = t.0; is_free = is_free t; dx = t.1.above.dx; dy = t.1.above.dy }

abbrev pub as_member : Named → Member
as_member n = record { id = n.id; dx = n.dx; dy = n.dy }

-- the members by rising id, where the shifts of all of them are in their range
abbrev pub rising : List Member → Option (List Member)
rising ms = if list_all is_shift_in_range ms then Some (by_id ms) else None

-- the change, where nothing speaks against it
abbrev pub if_allowed : Result (Unit {0}) EditRefusal → Op → Result Op EditRefusal
if_allowed (Ok is) change = Ok change
if_allowed (Err why) change = Err why

-- the group of these members
abbrev pub group_of : Result (List Member) EditRefusal → Result Op EditRefusal
group_of (Ok members) = Ok (Group members)
group_of (Err why) = Err why
