-- What sets a content other than a place and ends hangs on the kind of the object alone.
use Rattle.std.proofs.Common.{◌≡◌, ℤ, Option, refl}
use Rattle.gd_base.specs.Contents.{Said, content_map}
use Rattle.gd_base.specs.Stamps.{Stamp}
use Rattle.gd_base.specs.declared.content.Content.TheVariants.{ToEnds, ToPlace}
use Rattle.gd_base.specs.declared.content.Height.TheVariants.{To}
use Rattle.gd_base.specs.declared.object.Ends.{Ends}
use Rattle.gd_base.specs.declared.op.Op.TheVariants.{Set}
use Rattle.gd_events.specs.Ops.{Op}
use Rattle.gd_reference.specs.Judging.{Target, if_had, set_in}

-- what sets the content
abbrev pub setting : Stamp → Said → Op
setting id c = Set id (content_map (λ label. label) (λ looks. looks) To c)

pub set-other : (look : Stamp → Option Target) (id : Stamp) (c : Said) (t : Target)
    → ((x y : ℤ) → c ≡ ToPlace x y → ⊥) → ((ends : Option Ends) → c ≡ ToEnds ends → ⊥)
    → set_in look id c t ≡ if_had c (setting id c) t.kind
set-other look id (ToPlace x y) t not_place not_ends = absurd (not_place x y refl)
set-other look id (ToEnds ends) t not_place not_ends = absurd (not_ends ends refl)
set-other look id c t not_place not_ends = refl
