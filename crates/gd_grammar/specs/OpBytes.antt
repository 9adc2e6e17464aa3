-- The bytes of an operation on a drawing: a tag, and the fields by the tag. An id or the stamp of a rank that isn't
-- before the event's stamp is FutureId at its first byte, and so is a group that isn't above what is linked to it.
-- That, and whether the id of a member or of a tie is above that of the one before it, is judged before the fields
-- behind the id. In version One a label has at most 64 bytes, and in version Two at most 200, in neither with a line
-- feed. Only a group is restored with ties. Since version Two an object is put at the bottom, and since version Three
-- there are connectors, looks of several parts, and what an undo does.
use Rattle.std.specs.Prelude.{ℕ, ℤ, true, false, List, [], ◌∷◌, Option, Some, None}
use Rattle.gd_base.specs.Kinds.{most_ties}
use Rattle.gd_base.specs.Ranges.{place_limit, size_limit}
use Rattle.gd_base.specs.Stamps.{Stamp}
use Rattle.gd_base.specs.declared.content.Content.TheVariants as content
use Rattle.gd_base.specs.declared.content.Height.TheVariants.{To, At}
use Rattle.gd_base.specs.declared.content.Side.TheVariants.{Bottom, Top}
use Rattle.gd_base.specs.declared.member.Member.{Member}
use Rattle.gd_base.specs.declared.ranges.TheConstants.{MOST_MEMBERS}
use Rattle.gd_base.specs.declared.op.Op.TheVariants.{Create, Delete, Set, Group, Connect, Restore, Disband}
use Rattle.gd_base.specs.declared.object.Ends.{Ends}
use Rattle.gd_base.specs.declared.ties.Tie.{Tie}
use Rattle.gd_base.specs.declared.version.Version.{Version}
use Rattle.gd_events.specs.Ops.{Op, Done}
use Rattle.gd_grammar.specs.EventBytes.{last_tag, shape_at, label_at, colour_at, fill_at, width_at, count_at}
use Rattle.gd_grammar.specs.EventBytes.{member_id_at}
use Rattle.gd_grammar.specs.Fields.{id_at, signed_at}
use Rattle.gd_grammar.specs.LookBytes.{all_looks_at, is_style}
use Rattle.gd_base.specs.Looks.{only_fill, only_stroke, only_width}
use Rattle.gd_grammar.specs.ObjectBytes.{kind_at, link_at, of_kind_at, rank_at}
use Rattle.gd_grammar.specs.Reading.{Reader, pure, many_at, ranged, then_at}
use Rattle.gd_grammar.specs.Readers.{◌>>=◌, into, by_tag, by_tag_within}

-- ---- contents

-- what two numbers within the limit make
unfoldable pub two_at : ℕ → (ℤ → ℤ → Done) → Reader Done
two_at limit make = do
  x ← signed_at limit
  y ← signed_at limit
  pure (make x y)

-- a stroke, a fill or a width
abbrev pub look_rows : List (ℕ × Reader Done)
look_rows =
    (1, into (λ stroke. content.ToLooks (only_stroke stroke)) colour_at)
    ∷ (2, into (λ fill. content.ToLooks (only_fill fill)) fill_at)
    ∷ (3, into (λ width. content.ToLooks (only_width width)) width_at)
    ∷ []

-- which of them, and its value
unfoldable pub lone_at : Reader Done
lone_at = by_tag look_rows

-- any other looks
unfoldable pub style_at : Reader Done
style_at bytes = then_at all_looks_at (λ looks. ranged (is_style looks) (content.ToLooks looks) bytes) bytes

abbrev pub text_at : Version → Reader Done
text_at version = into content.ToText (label_at version)

-- a rank that it had
abbrev pub level_at : Stamp → Reader Done
level_at stamp = into (λ rank. content.ToRank (At rank)) (rank_at (Some stamp))

-- the ends of a connector, which are before the event's stamp
unfoldable pub ends_at : Stamp → Reader Ends
ends_at stamp = do
  from ← id_at stamp
  to ← id_at stamp
  pure (record { from = from; to = to })

abbrev pub reconnect_at : Stamp → Reader Done
reconnect_at stamp = into (λ ends. content.ToEnds (Some ends)) (ends_at stamp)

-- ---- operations

unfoldable pub create_at : Version → Reader Op
create_at version = do
  kind ← shape_at
  x ← signed_at place_limit
  y ← signed_at place_limit
  w ← signed_at size_limit
  h ← signed_at size_limit
  label ← label_at version
  pure (Create kind x y w h label)

unfoldable pub set_at : Stamp → Reader Done → Reader Op
set_at stamp content = do
  id ← id_at stamp
  c ← content
  pure (Set id c)

unfoldable pub member_at : Stamp → Option Stamp → Reader Member
member_at stamp last = do
  id ← member_id_at stamp last
  dx ← signed_at place_limit
  dy ← signed_at place_limit
  pure (record { id = id; dx = dx; dy = dy })

-- so many members behind a last one, if there is one
abbrev pub members_at : ℕ → Stamp → Option Stamp → Reader (List Member)
members_at count stamp last bytes = many_at (member_at stamp) (λ m. Some m.id) count last bytes

unfoldable pub group_at : Stamp → Reader Op
group_at stamp = do
  count ← count_at 2 MOST_MEMBERS
  members ← members_at count stamp None
  pure (Group members)

unfoldable pub tie_at : Stamp → Option Stamp → Reader Tie
tie_at stamp last = do
  id ← member_id_at stamp last
  link ← link_at (Some (record { stamp = stamp; id = id }))
  pure (record { id = id; link = link })

-- so many ties behind a last one, if there is one
abbrev pub ties_at : ℕ → Stamp → Option Stamp → Reader (List Tie)
ties_at count stamp last bytes = many_at (tie_at stamp) (λ t. Some t.id) count last bytes

-- their number, from so many to so many, and the ties
unfoldable pub all_ties_at : ℕ → ℕ → Stamp → Reader (List Tie)
all_ties_at least most stamp = do
  count ← count_at least most
  ties_at count stamp None

unfoldable pub connect_at : Version → Stamp → Reader Op
connect_at version stamp = do
  ends ← ends_at stamp
  label ← label_at version
  pure (Connect ends label)

unfoldable pub restore_at : Stamp → Reader Op
restore_at stamp = do
  id ← id_at stamp
  kind ← kind_at
  object ← of_kind_at kind (Some (record { stamp = stamp; id = id }))
  ties ← all_ties_at 0 (most_ties kind) stamp
  pure (Restore id object ties)

unfoldable pub disband_at : Stamp → Reader Op
disband_at stamp = do
  id ← id_at stamp
  ties ← all_ties_at 1 MOST_MEMBERS stamp
  pure (Disband id ties)

-- those that set something other than a label
abbrev pub small_rows : Stamp → List (ℕ × Reader Op)
small_rows stamp =
    (3, set_at stamp (two_at place_limit content.ToPlace))
    ∷ (4, set_at stamp (two_at size_limit content.ToSize))
    ∷ (5, set_at stamp lone_at)
    ∷ (8, set_at stamp (pure (content.ToFlag true)))
    ∷ (9, set_at stamp (pure (content.ToRank (To Top))))
    ∷ (10, set_at stamp (pure (content.ToRank (To Bottom))))
    ∷ (13, set_at stamp (level_at stamp))
    ∷ (14, set_at stamp (pure (content.ToFlag false)))
    ∷ (15, set_at stamp style_at)
    ∷ (17, set_at stamp (reconnect_at stamp))
    ∷ []

abbrev pub op_rows : Version → Stamp → List (ℕ × Reader Op)
op_rows version stamp =
    (1, create_at version)
    ∷ (2, into Delete (id_at stamp))
    ∷ (6, set_at stamp (text_at version))
    ∷ (7, group_at stamp)
    ∷ (11, restore_at stamp)
    ∷ (12, disband_at stamp)
    ∷ (16, connect_at version stamp)
    ∷ small_rows stamp

unfoldable pub op_at : Version → Stamp → Reader Op
op_at version stamp = by_tag_within (last_tag version) (op_rows version stamp)
