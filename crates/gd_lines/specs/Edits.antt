-- The edits that lines ask for: a row for each. A label is everything behind the one space behind the last word in
-- front of it, and is judged last.
use Rattle.std.specs.Prelude.{ℕ, zero, suc, ◌-◌, ◌/◌, ◌%◌, ℤ, pos, neg_ℤ, Bool, true, ◌&&◌, ◌==◌, nat_le, List, [], ◌∷◌}
use Rattle.std.specs.Prelude.{◌++◌, drop, Option, Some, codes}
use Rattle.gd_base.specs.Contents.{Said}
use Rattle.gd_base.specs.Ranges.{place_limit, size_limit}
use Rattle.gd_base.specs.Stamps.{Stamp}
use Rattle.gd_base.specs.declared.content.Content.TheVariants as content
use Rattle.gd_base.specs.declared.content.Side.{Side}
use Rattle.gd_base.specs.declared.content.Side.TheVariants.{Bottom, Top}
use Rattle.gd_base.specs.declared.op.Nothing.{Nothing}
use Rattle.gd_base.specs.declared.op.Op as sum
use Rattle.gd_base.specs.declared.op.Op.TheVariants.{Create, Delete, Set, Group, Connect}
use Rattle.gd_base.specs.Looks.{no_looks}
use Rattle.gd_base.specs.declared.look.Looks.{Looks}
use Rattle.gd_base.specs.declared.object.Ends.{Ends}
use Rattle.gd_base.specs.declared.ranges.TheConstants.{LETTERS_LIMIT, MOST_MEMBERS, OPACITY_LIMIT, ROUND_LIMIT}
use Rattle.gd_base.specs.declared.ranges.TheConstants.{WIDTH_LIMIT}
use Rattle.gd_base.specs.declared.refusal.LineFault.TheVariants.{BadKind, BadNumber, BadId, BadColour, BadLook}
use Rattle.gd_base.specs.declared.refusal.LineFault.TheVariants.{BadLabel}
use Rattle.gd_base.specs.declared.shape.Shape.{Shape}
use Rattle.gd_lines.specs.declared.command.Command.{Command}
use Rattle.gd_lines.specs.declared.command.Command.TheVariants as command
use Rattle.gd_lines.specs.Readers.{◌>>=◌}
use Rattle.gd_lines.specs.Reading.{Reader, next, or_fault, pure}
use Rattle.gd_lines.specs.Rows.{Row, at_least, exactly, from_to, row}
use Rattle.gd_lines.specs.WordKinds.{number_in, natural_in, id, colour, fill, kind, dash, heads, alignment, new_name}
use Rattle.gd_lines.specs.WordKinds.{label}
use Rattle.gd_lines.specs.declared.look_name.LookName.{LookName}
use Rattle.gd_lines.specs.declared.look_name.LookName.TheVariants as look

-- a change that a user asks for
abbrev pub Edit : Type 0
Edit = sum.Op (List ℕ) Looks (List Stamp) Side Nothing Nothing

-- ---- words

unfoldable pub kind_at : Reader Shape
kind_at line = next BadKind kind line

-- a number within the limit
unfoldable pub within_at : ℕ → Reader ℤ
within_at limit line = next BadNumber (number_in (neg_ℤ (pos limit)) (pos limit)) line

unfoldable pub natural_at : ℕ → ℕ → Reader ℕ
natural_at low high line = next BadNumber (natural_in low high) line

unfoldable pub width_at : Reader ℕ
width_at line = natural_at 1 WIDTH_LIMIT line

unfoldable pub id_at : Reader Stamp
id_at line = next BadId id line

unfoldable pub colour_at : Reader ℕ
colour_at line = next BadColour colour line

unfoldable pub fill_at : Reader (Option ℕ)
fill_at line = next BadColour fill line

-- everything behind one space
unfoldable pub label_at : Reader (List ℕ)
label_at line = or_fault BadLabel [] (label (drop 1 line))

-- `count` ids, behind those that were read
unfoldable pub ids_at : ℕ → List Stamp → Reader (List Stamp)
ids_at zero ids = pure ids
ids_at (suc count) ids = do
  id ← id_at
  ids_at count (ids ++ id ∷ [])

-- ---- what follows a name, from left to right

unfoldable pub create_words : Reader Command
create_words = do
  kind ← kind_at
  x ← within_at place_limit
  y ← within_at place_limit
  w ← within_at size_limit
  h ← within_at size_limit
  label ← label_at
  pure (command.Edit (Create kind x y w h label))

unfoldable pub delete_words : Reader Command
delete_words = do
  id ← id_at
  pure (command.Edit (Delete id))

unfoldable pub group_words : ℕ → Reader Command
group_words count = do
  ids ← ids_at count []
  pure (command.Edit (Group ids))

unfoldable pub connect_words : Reader Command
connect_words = do
  from ← id_at
  to ← id_at
  label ← label_at
  pure (command.Edit (Connect (record { from = from; to = to }) label))

-- an id, and a content behind it
unfoldable pub set_words : Reader Said → Reader Command
set_words content = do
  id ← id_at
  c ← content
  pure (command.Edit (Set id c))

-- ---- contents

-- what two numbers within the limit make
unfoldable pub two_words : ℕ → (ℤ → ℤ → Said) → Reader Said
two_words limit make = do
  x ← within_at limit
  y ← within_at limit
  pure (make x y)

-- the value of a part of a look, with those that were read
unfoldable pub value_at : LookName → Looks → Reader Looks
value_at look.Stroke l = do
  stroke ← colour_at
  pure (record l { stroke = Some stroke })
value_at look.Fill l = do
  fill ← fill_at
  pure (record l { fill = Some fill })
value_at look.Width l = do
  width ← width_at
  pure (record l { width = Some width })
value_at look.Dash l = do
  dash ← next BadLook dash
  pure (record l { dash = Some dash })
value_at look.Heads l = do
  heads ← next BadLook heads
  pure (record l { heads = Some heads })
value_at look.Round l = do
  round ← natural_at 0 ROUND_LIMIT
  pure (record l { round = Some (Some round) })
value_at look.Opacity l = do
  opacity ← natural_at 1 OPACITY_LIMIT
  pure (record l { opacity = Some opacity })
value_at look.Size l = do
  size ← natural_at 1 LETTERS_LIMIT
  pure (record l { letters = Some (Some size) })
value_at look.Align l = do
  align ← next BadLook alignment
  pure (record l { align = Some (Some align) })

-- the value of that part alone
unfoldable pub look_words : LookName → Reader Said
look_words name = do
  looks ← value_at name no_looks
  pure (content.ToLooks looks)

-- the name of a part that wasn't named yet, and its value
unfoldable pub named_at : Looks → Reader Looks
named_at looks = do
  name ← next BadLook (new_name looks)
  value_at name looks

-- so many of them, with those that were read
unfoldable pub looks_at : ℕ → Looks → Reader Looks
looks_at zero looks = pure looks
looks_at (suc count) looks = do
  more ← named_at looks
  looks_at count more

unfoldable pub style_words : ℕ → Reader Said
style_words count = do
  looks ← looks_at count no_looks
  pure (content.ToLooks looks)

unfoldable pub ends_at : Reader Ends
ends_at = do
  from ← id_at
  to ← id_at
  pure (record { from = from; to = to })

unfoldable pub ends_words : Reader Said
ends_words = do
  ends ← ends_at
  pure (content.ToEnds (Some ends))

unfoldable pub text_words : Reader Said
text_words = do
  label ← label_at
  pure (content.ToText label)

-- ---- rows

-- so many words: an id, and those of a content
abbrev pub sets : List ℕ → ℕ → Reader Said → Row Command
sets name count content = row name (exactly count) (λ n. set_words content)

-- an id, and 1 to 9 pairs of a name and a value
abbrev pub pairs : ℕ → Bool
pairs n = n % 2 == 1 && (nat_le 3 n && nat_le n 19)

-- of texts, connectors, groups and the stack
unfoldable pub other_rows : List (Row Command)
other_rows =
    row (codes "text") (at_least 1) (λ n. set_words text_words)
    ∷ row (codes "connect") (at_least 2) (λ n. connect_words)
    ∷ sets (codes "reconnect") 3 ends_words
    ∷ row (codes "group") (from_to 2 MOST_MEMBERS) group_words
    ∷ sets (codes "ungroup") 1 (pure (content.ToFlag true))
    ∷ sets (codes "raise") 1 (pure (content.ToRank Top))
    ∷ sets (codes "lower") 1 (pure (content.ToRank Bottom))
    ∷ []

-- of looks, and then the others
unfoldable pub look_rows : List (Row Command)
look_rows =
    sets (codes "stroke") 2 (look_words look.Stroke)
    ∷ sets (codes "fill") 2 (look_words look.Fill)
    ∷ sets (codes "width") 2 (look_words look.Width)
    ∷ sets (codes "dash") 2 (look_words look.Dash)
    ∷ sets (codes "heads") 2 (look_words look.Heads)
    ∷ sets (codes "round") 2 (look_words look.Round)
    ∷ sets (codes "opacity") 2 (look_words look.Opacity)
    ∷ sets (codes "size") 2 (look_words look.Size)
    ∷ sets (codes "align") 2 (look_words look.Align)
    ∷ row (codes "style") pairs (λ n. set_words (style_words ((n - 1) / 2)))
    ∷ other_rows

unfoldable pub edit_rows : List (Row Command)
edit_rows =
    row (codes "create") (at_least 5) (λ n. create_words)
    ∷ row (codes "delete") (exactly 1) (λ n. delete_words)
    ∷ sets (codes "move") 3 (two_words place_limit content.ToPlace)
    ∷ sets (codes "resize") 3 (two_words size_limit content.ToSize)
    ∷ look_rows
