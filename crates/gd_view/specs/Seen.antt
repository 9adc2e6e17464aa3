-- An object as it is shown.
use Rattle.std.specs.Prelude.{◌+ℤ◌, Bool, false, Option, None, Some, is_none}
use Rattle.gd_base.specs.Stamps.{Stamp}
use Rattle.gd_base.specs.Whole.{Object}
use Rattle.gd_model.specs.Drawing.{Drawing}
use Rattle.gd_model.specs.Shown.{seen_as}
use Rattle.gd_model.specs.declared.above.Above.{Above}
use Rattle.gd_view.specs.declared.places.Shown.{Shown}

-- an object with what stands above it
abbrev pub shown_at : Object → Above → Shown
shown_at b a =
    record {
      parent = a.parent;
      at = record { x = b.x +ℤ a.dx; y = b.y +ℤ a.dy };
      above = record { x = a.dx; y = a.dy };
      kind = b.kind;
    }

-- the object of that id as it is shown, or none where it isn't shown
abbrev pub seen : Drawing → Stamp → Option Shown
seen d id = seen_as shown_at d id

-- it is shown, and in no group: of an object that isn't shown this is false
abbrev pub has_no_parent : Option Shown → Bool
has_no_parent None = false
has_no_parent (Some s) = is_none s.parent
