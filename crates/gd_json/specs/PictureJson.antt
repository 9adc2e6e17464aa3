-- A drawing as one line of JSON: an array with an object for each shown object, in printed order. The keys stand in the
-- order of their bytes.
use Rattle.std.specs.Prelude.{ℕ, List, [], ◌∷◌, ◌++◌, map, codes}
use Rattle.gd_base.specs.declared.item.Body.{Body}
use Rattle.gd_base.specs.declared.item.Body.TheVariants.{Shape, Joined, Group}
use Rattle.gd_base.specs.declared.item.Item.{Item}
use Rattle.gd_json.specs.Values.{Field, array, in_order, object, plain, quoted}
use Rattle.gd_json.specs.Parts.{id_json, id_or_null, kind_json, style_fields, two}

-- what only a shape has, or only a connector, or that it is a group
abbrev pub body_fields : Body → List Field
body_fields (Shape shape) =
    (codes "kind", kind_json shape.kind)
    ∷ (codes "label", quoted shape.label)
    ∷ (codes "size", two shape.w shape.h)
    ∷ style_fields shape.look
body_fields (Joined joined) =
    (codes "kind", plain (codes "connector"))
    ∷ (codes "label", quoted joined.label)
    ∷ (codes "from", id_json joined.ends.from)
    ∷ (codes "to", id_json joined.ends.to)
    ∷ style_fields joined.look
body_fields Group = (codes "kind", plain (codes "group")) ∷ []

-- where it is shown, of what isn't shown between its ends
abbrev pub at_fields : Item → Body → List Field
at_fields item (Joined joined) = []
at_fields item other = (codes "at", two item.at.x item.at.y) ∷ []

abbrev pub item_fields : Item → List Field
item_fields item =
    (codes "id", id_json item.id)
    ∷ (codes "in", id_or_null item.parent)
    ∷ at_fields item item.body ++ body_fields item.body

unfoldable pub item_json : Item → List ℕ
item_json item = object (in_order (item_fields item))

-- the items in their order, and LF
abbrev pub picture_json : List Item → List ℕ
picture_json items = array (map item_json items) ++ codes "\n"
