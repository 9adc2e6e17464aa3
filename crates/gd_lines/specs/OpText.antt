-- An operation as it is printed: in the words of the line that asks for it, where there is one. A move has the place of
-- the event, which is that in what stands above the object, and a group the shift of each member.
use Rattle.std.specs.Prelude.{ℕ, ℤ, true, false, Bool, List, [], ◌++◌, ◌∷◌, Option, Some, None, codes, decimal, length}
use Rattle.std.specs.Prelude.{◌==◌, if◌then◌else◌}
use Rattle.std.specs.Fmt.{signed_decimal}
use Rattle.std.specs.List.{flat_map}
use Rattle.gd_base.specs.Stamps.{Stamp}
use Rattle.gd_base.specs.declared.content.Content.TheVariants as content
use Rattle.gd_base.specs.declared.content.Height.TheVariants.{To, At}
use Rattle.gd_base.specs.declared.content.Side.TheVariants.{Bottom, Top}
use Rattle.gd_base.specs.declared.look.Align.{Align}
use Rattle.gd_base.specs.declared.look.Dash.{Dash}
use Rattle.gd_base.specs.declared.look.Dash.TheVariants.{Solid, Dashed, Dotted}
use Rattle.gd_base.specs.declared.look.Heads.{Heads}
use Rattle.gd_base.specs.declared.look.Heads.TheVariants.{Bare, AtEnd, AtStart, AtBoth}
use Rattle.gd_base.specs.declared.look.Looks.{Looks}
use Rattle.gd_base.specs.declared.member.Member.{Member}
use Rattle.gd_base.specs.declared.object.Kind.{Kind}
use Rattle.gd_base.specs.declared.object.Kind.TheVariants as kinds
use Rattle.gd_base.specs.declared.object.Ends.{Ends}
use Rattle.gd_base.specs.declared.object.Link.{Link}
use Rattle.gd_base.specs.Whole.{Object}
use Rattle.gd_base.specs.declared.op.Op.TheVariants.{Create, Delete, Set, Group, Connect, Restore, Disband}
use Rattle.gd_base.specs.declared.rank.Rank.{Rank}
use Rattle.gd_base.specs.declared.rank.Rank.TheVariants.{Low, High}
use Rattle.gd_base.specs.declared.ties.Tie.{Tie}
use Rattle.gd_events.specs.Ops.{Done, Op}
use Rattle.gd_lines.specs.Text.{align_word, colour_text, escaped, fill_text, id_text, label_text, marks_text}
use Rattle.gd_lines.specs.Text.{shape_word}

-- ---- words, each behind a space

abbrev pub spaced : List ℕ → List ℕ
spaced word = codes " " ++ word

unfoldable pub two_text : ℤ → ℤ → List ℕ
two_text x y = spaced (signed_decimal x) ++ spaced (signed_decimal y)

-- a command, and the object that it is of
unfoldable pub command_text : List ℕ → Stamp → List ℕ
command_text name id = name ++ spaced (id_text id)

-- the label of a line that asks for it
abbrev pub behind_text : List ℕ → List ℕ
behind_text label = if length label == 0 then [] else spaced (escaped label)

-- ---- objects as they were

unfoldable pub member_text : Member → List ℕ
member_text m = spaced (id_text m.id) ++ two_text m.dx m.dy

abbrev pub link_text : Option Link → List ℕ
link_text None = codes " in -"
link_text (Some link) = codes " in " ++ id_text link.parent ++ two_text link.dx link.dy

unfoldable pub tie_text : Tie → List ℕ
tie_text t = codes " tie " ++ id_text t.id ++ link_text t.link

abbrev pub rank_text : Rank → List ℕ
rank_text (Low stamp) = codes " low " ++ id_text stamp
rank_text (High stamp) = codes " high " ++ id_text stamp

abbrev pub dissolved_text : Bool → List ℕ
dissolved_text true = codes " dissolved"
dissolved_text false = []

-- the ends of a connector
abbrev pub both_text : Ends → List ℕ
both_text ends = spaced (id_text ends.from) ++ spaced (id_text ends.to)

abbrev pub ends_text : Option Ends → List ℕ
ends_text None = []
ends_text (Some ends) = both_text ends

abbrev pub kind_text : Kind → List ℕ
kind_text (kinds.Shape shape) = spaced (shape_word shape)
kind_text kinds.Group = codes " group"
kind_text kinds.Connector = codes " connector"

-- ---- looks, each with its name: those of a lone one are the words of its line

abbrev pub dash_word : Dash → List ℕ
dash_word Solid = codes "solid"
dash_word Dashed = codes "dashed"
dash_word Dotted = codes "dotted"

abbrev pub heads_word : Heads → List ℕ
heads_word Bare = codes "none"
heads_word AtEnd = codes "end"
heads_word AtStart = codes "start"
heads_word AtBoth = codes "both"

-- a number, or that it is as the kind has it
abbrev pub number_or_none : Option ℕ → List ℕ
number_or_none None = codes "none"
number_or_none (Some n) = decimal n

abbrev pub align_or_none : Option Align → List ℕ
align_or_none None = codes "none"
align_or_none (Some a) = align_word a

-- a part of a look, where it is set
abbrev pub part_of : {A : Type 0} → List ℕ → (A → List ℕ) → Option A → List (List ℕ × List ℕ)
part_of name text None = []
part_of name text (Some value) = (name, text value) ∷ []

-- the parts that are set, by their names
abbrev pub parts_of : Looks → List (List ℕ × List ℕ)
parts_of l =
    part_of (codes "stroke") colour_text l.stroke ++ part_of (codes "fill") fill_text l.fill
    ++ part_of (codes "width") decimal l.width
    ++ part_of (codes "dash") dash_word l.dash ++ part_of (codes "heads") heads_word l.heads
    ++ part_of (codes "round") number_or_none l.round ++ part_of (codes "opacity") decimal l.opacity
    ++ part_of (codes "size") number_or_none l.letters ++ part_of (codes "align") align_or_none l.align

abbrev pub pair_text : List ℕ × List ℕ → List ℕ
pair_text p = spaced p.0 ++ spaced p.1

-- a lone part in the words of its line, and others in those of a style
abbrev pub looks_text : Stamp → List (List ℕ × List ℕ) → List ℕ
looks_text id (p ∷ []) = command_text p.0 id ++ spaced p.1
looks_text id ps = command_text (codes "style") id ++ flat_map pair_text ps

-- what an object is, where it stands, and how it looks
unfoldable pub whole_text : Object → List ℕ
whole_text o =
    kind_text o.kind ++ ends_text o.ends ++ two_text o.x o.y ++ two_text o.w o.h ++ spaced (colour_text o.look.stroke)
    ++ spaced (fill_text o.look.fill) ++ spaced (decimal o.look.width) ++ marks_text o.look

-- to which group it is linked, whether it is dissolved, and how high it lies
unfoldable pub state_text : Object → List ℕ
state_text o = link_text o.link ++ dissolved_text o.dissolved ++ rank_text o.rank

-- ---- a row for each operation

-- what sets a content
abbrev pub content_text : Stamp → Done → List ℕ
content_text id (content.ToPlace x y) = command_text (codes "move") id ++ two_text x y
content_text id (content.ToSize w h) = command_text (codes "resize") id ++ two_text w h
content_text id (content.ToLooks looks) = looks_text id (parts_of looks)
content_text id (content.ToText label) = command_text (codes "text") id ++ behind_text label
content_text id (content.ToFlag true) = command_text (codes "ungroup") id
content_text id (content.ToFlag false) = command_text (codes "reopen") id
content_text id (content.ToRank (To Top)) = command_text (codes "raise") id
content_text id (content.ToRank (To Bottom)) = command_text (codes "lower") id
content_text id (content.ToEnds ends) = command_text (codes "reconnect") id ++ ends_text ends
content_text id (content.ToRank (At rank)) = command_text (codes "rerank") id ++ rank_text rank

abbrev pub op_text : Op → List ℕ
op_text (Create kind x y w h label) =
    codes "create" ++ spaced (shape_word kind) ++ two_text x y ++ two_text w h ++ behind_text label
op_text (Delete id) = command_text (codes "delete") id
op_text (Set id content) = content_text id content
op_text (Group members) = codes "group" ++ flat_map member_text members
op_text (Connect ends label) = codes "connect" ++ both_text ends ++ behind_text label
op_text (Restore id o ties) =
    command_text (codes "restore") id ++ whole_text o ++ state_text o ++ flat_map tie_text ties ++ label_text o.label
op_text (Disband id ties) = command_text (codes "disband") id ++ flat_map tie_text ties
