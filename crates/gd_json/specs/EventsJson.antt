-- Events as one line of JSON: an array with an object for each event, in the list's order. Each object has `clock`,
-- `seq` and `site`, under `op` the name of the operation, and the operation's own keys. All keys stand in the order of
-- their bytes.
use Rattle.std.specs.Prelude.{ℕ, ℤ, true, false, Option, Some, None, List, [], ◌∷◌, ◌++◌, map, codes, decimal}
use Rattle.std.specs.Fmt.{signed_decimal}
use Rattle.gd_base.specs.Stamps.{Stamp}
use Rattle.gd_base.specs.declared.content.Content.TheVariants as content
use Rattle.gd_base.specs.declared.look.Looks.{Looks}
use Rattle.gd_base.specs.declared.object.Ends.{Ends}
use Rattle.gd_base.specs.declared.content.Height.TheVariants.{To, At}
use Rattle.gd_base.specs.declared.content.Side.TheVariants.{Bottom, Top}
use Rattle.gd_base.specs.declared.member.Member.{Member}
use Rattle.gd_base.specs.declared.op.Op.TheVariants.{Create, Delete, Set, Group, Connect, Restore, Disband}
use Rattle.gd_base.specs.declared.object.Kind.{Kind}
use Rattle.gd_base.specs.declared.object.Kind.TheVariants as kinds
use Rattle.gd_base.specs.declared.object.Link.{Link}
use Rattle.gd_base.specs.Whole.{Object}
use Rattle.gd_base.specs.declared.rank.Rank.{Rank}
use Rattle.gd_base.specs.declared.rank.Rank.TheVariants.{Low, High}
use Rattle.gd_base.specs.declared.ties.Tie.{Tie}
use Rattle.gd_events.specs.Events.{Event}
use Rattle.gd_events.specs.Ops.{Op, Done}
use Rattle.gd_json.specs.Values.{Field, array, flag, in_order, null, object, plain, quoted}
use Rattle.gd_json.specs.Parts.{align_or_null, colour_json, colour_or_null, dash_json, heads_json, id_json, kind_json}
use Rattle.gd_json.specs.Parts.{number_or_null, style_fields, two}

abbrev pub id_field : Stamp → Field
id_field id = (codes "id", id_json id)

abbrev pub number_field : List ℕ → ℤ → Field
number_field key number = (key, signed_decimal number)

abbrev pub count_field : List ℕ → ℕ → Field
count_field key count = (key, decimal count)

-- a place and a size
abbrev pub box_fields : ℤ → ℤ → ℤ → ℤ → List Field
box_fields x y w h =
    number_field (codes "x") x ∷ number_field (codes "y") y ∷ number_field (codes "w") w ∷ number_field (codes "h") h
    ∷ []

abbrev pub member_fields : Member → List Field
member_fields m = number_field (codes "dx") m.dx ∷ number_field (codes "dy") m.dy ∷ id_field m.id ∷ []

unfoldable pub member_json : Member → List ℕ
member_json m = object (in_order (member_fields m))

-- ---- objects and ties as they were

abbrev pub link_fields : Link → List Field
link_fields link = number_field (codes "dx") link.dx ∷ number_field (codes "dy") link.dy ∷ id_field link.parent ∷ []

-- a group and the shift, as a member has them, or null
unfoldable pub link_json : Option Link → List ℕ
link_json None = null
link_json (Some link) = object (in_order (link_fields link))

-- the stamp of a rank, under how high it is
unfoldable pub rank_json : Rank → List ℕ
rank_json (Low stamp) = object (in_order ((codes "low", id_json stamp) ∷ []))
rank_json (High stamp) = object (in_order ((codes "high", id_json stamp) ∷ []))

abbrev pub kind_or_group : Kind → List ℕ
kind_or_group (kinds.Shape shape) = kind_json shape
kind_or_group kinds.Group = plain (codes "group")
kind_or_group kinds.Connector = plain (codes "connector")

-- the ends of a connector
abbrev pub both_fields : Ends → List Field
both_fields ends = (codes "from", id_json ends.from) ∷ (codes "to", id_json ends.to) ∷ []

abbrev pub ends_fields : Option Ends → List Field
ends_fields None = []
ends_fields (Some ends) = both_fields ends

-- to which group it is linked, whether it is dissolved, and how high it lies
abbrev pub state_of : Object → List Field
state_of o = (codes "link", link_json o.link) ∷ (codes "dissolved", flag o.dissolved) ∷ (codes "rank", rank_json o.rank)
    ∷ []

-- the fields of an item, also of a group, and those of its state
abbrev pub object_fields : Object → List Field
object_fields o =
    (codes "kind", kind_or_group o.kind) ∷ (codes "at", two o.x o.y) ∷ (codes "size", two o.w o.h)
    ∷ (codes "label", quoted o.label)
    ∷ style_fields o.look ++ ends_fields o.ends ++ state_of o

abbrev pub tie_fields : Tie → List Field
tie_fields t = id_field t.id ∷ (codes "link", link_json t.link) ∷ []

unfoldable pub tie_json : Tie → List ℕ
tie_json t = object (in_order (tie_fields t))

abbrev pub ties_field : List Tie → Field
ties_field ties = (codes "ties", array (map tie_json ties))

-- ---- a row for each operation

-- a name, in front of the other fields
abbrev pub named : List ℕ → List Field → List Field
named op fields = (codes "op", plain op) ∷ fields

-- a part of a look, where it is set
abbrev pub part_field : {A : Type 0} → List ℕ → (A → List ℕ) → Option A → List Field
part_field key json None = []
part_field key json (Some value) = (key, json value) ∷ []

-- the parts that are set
abbrev pub looks_fields : Looks → List Field
looks_fields l =
    part_field (codes "stroke") colour_json l.stroke ++ part_field (codes "fill") colour_or_null l.fill
    ++ part_field (codes "width") decimal l.width ++ part_field (codes "dash") dash_json l.dash
    ++ part_field (codes "heads") heads_json l.heads ++ part_field (codes "round") number_or_null l.round
    ++ part_field (codes "opacity") decimal l.opacity ++ part_field (codes "letters") number_or_null l.letters
    ++ part_field (codes "align") align_or_null l.align

-- what sets a content
abbrev pub content_fields : Done → List Field
content_fields (content.ToPlace x y) =
    named (codes "move") (number_field (codes "x") x ∷ number_field (codes "y") y ∷ [])
content_fields (content.ToSize w h) =
    named (codes "resize") (number_field (codes "w") w ∷ number_field (codes "h") h ∷ [])
content_fields (content.ToLooks looks) = named (codes "restyle") (looks_fields looks)
content_fields (content.ToText label) = named (codes "retext") ((codes "label", quoted label) ∷ [])
content_fields (content.ToFlag true) = named (codes "ungroup") []
content_fields (content.ToFlag false) = named (codes "reopen") []
content_fields (content.ToEnds ends) = named (codes "reconnect") (ends_fields ends)
content_fields (content.ToRank (To Top)) = named (codes "raise") []
content_fields (content.ToRank (To Bottom)) = named (codes "lower") []
content_fields (content.ToRank (At rank)) = named (codes "rerank") ((codes "rank", rank_json rank) ∷ [])

abbrev pub op_fields : Op → List Field
op_fields (Create kind x y w h label) =
    named (codes "create") ((codes "kind", kind_json kind) ∷ (codes "label", quoted label) ∷ box_fields x y w h)
op_fields (Delete id) = named (codes "delete") (id_field id ∷ [])
op_fields (Set id content) = id_field id ∷ content_fields content
op_fields (Group members) = named (codes "group") ((codes "members", array (map member_json members)) ∷ [])
op_fields (Connect ends label) = named (codes "connect") ((codes "label", quoted label) ∷ both_fields ends)
op_fields (Restore id o ties) = named (codes "restore") (id_field id ∷ ties_field ties ∷ object_fields o)
op_fields (Disband id ties) = named (codes "disband") (id_field id ∷ ties_field ties ∷ [])

-- ---- events

abbrev pub event_fields : Event → List Field
event_fields e =
    count_field (codes "clock") e.stamp.clock ∷ count_field (codes "seq") e.number
    ∷ count_field (codes "site") e.stamp.site
    ∷ op_fields e.op

unfoldable pub event_json : Event → List ℕ
event_json e = object (in_order (event_fields e))

-- the events in their order, and LF
abbrev pub events_json : List Event → List ℕ
events_json events = array (map event_json events) ++ codes "\n"
