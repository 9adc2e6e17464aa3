-- Why a group isn't taken back by an ungroup, once an ungroup can be taken back: a group, its end, and another group of
-- the same objects, all taken back but the first. The second group took the links away, and an ungroup doesn't give
-- them back.
use Rattle.std.specs.Prelude.{ℕ, pos, true, false, List, [], ◌∷◌, ◌++◌, Option, Some, map}
use Rattle.gd_base.specs.Stamps.{Stamp}
use Rattle.gd_base.specs.declared.content.Content.TheVariants.{ToFlag}
use Rattle.gd_base.specs.declared.member.Member.{Member}
use Rattle.gd_base.specs.declared.op.Op.TheVariants.{Create, Set, Group, Disband}
use Rattle.gd_base.specs.declared.shape.Shape.TheVariants.{Rect}
use Rattle.gd_base.specs.declared.ties.Tie.{Tie}
use Rattle.gd_events.specs.Events.{Event}
use Rattle.gd_events.specs.Ops.{Op}
use Rattle.gd_model.specs.Drawing.{picture}
use Rattle.gd_model.specs.Shown.{items}

abbrev pub at_clock : ℕ → Stamp
at_clock n = record { clock = n; site = 1 }

abbrev pub event : ℕ → Op → Event
event n op = record { stamp = at_clock n; number = n; op = op }

abbrev pub rect : Op
rect = Create Rect (pos 0) (pos 0) (pos 0) (pos 0) []

abbrev pub member : ℕ → Member
member n = record { id = at_clock n; dx = pos 0; dy = pos 0 }

abbrev pub pair : Op
pair = Group (member 1 ∷ member 2 ∷ [])

-- two rects in a group
abbrev pub grouped : List Event
grouped = event 1 rect ∷ event 2 rect ∷ event 3 pair ∷ []

-- which is dissolved, and then they are grouped again
abbrev pub regrouped : List Event
regrouped = grouped ++ event 4 (Set (at_clock 3) (ToFlag true)) ∷ event 5 pair ∷ []

-- and both are taken back, the second group by an ungroup
abbrev pub ungrouped_back : List Event
ungrouped_back = regrouped ++ event 6 (Set (at_clock 5) (ToFlag true)) ∷ event 7 (Set (at_clock 3) (ToFlag false)) ∷ []

abbrev pub tie : ℕ → Tie
tie n = record { id = at_clock n; link = Some record { parent = at_clock 3; dx = pos 0; dy = pos 0 } }

-- or by what gives the links back
abbrev pub disbanded_back : List Event
disbanded_back = regrouped
    ++ event 6 (Disband (at_clock 5) (tie 1 ∷ tie 2 ∷ [])) ∷ event 7 (Set (at_clock 3) (ToFlag false)) ∷ []

-- the shown objects, each with the group that it is shown in
abbrev pub nested : List Event → List (Stamp × Option Stamp)
nested events = map (λ i. (i.id, i.parent)) (items (picture events))
