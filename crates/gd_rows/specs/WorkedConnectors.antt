-- Worked rows of connectors and looks: what is shown of them, what edits of them become, what comes of two of them at
-- once, and what dropped ones leave to what drops them.
--
-- On the board stand the rects 1.1, 2.1 and 4.1, each 20 further, and 3.1, which connects the first two. What two
-- events touch, and so what comes of the earlier one where it arrives last, is read off the tables of docs/FORMATS.md,
-- section 3.
use Prim.Native.String.{String}
use Rattle.std.specs.Prelude.{ℕ, pos, true, List, [], ◌∷◌, ◌++◌, codes, Result, Ok, Err, Some, None}
use Rattle.gd_base.specs.Looks.{no_looks, only_stroke}
use Rattle.gd_base.specs.Whole.{Object}
use Rattle.gd_base.specs.declared.content.Content.TheVariants.{ToPlace, ToSize, ToLooks, ToText, ToFlag, ToEnds, ToRank}
use Rattle.gd_base.specs.declared.content.Height.TheVariants.{To}
use Rattle.gd_base.specs.declared.content.Side.TheVariants.{Top}
use Rattle.gd_base.specs.declared.look.Dash.TheVariants.{Solid, Dashed, Dotted}
use Rattle.gd_base.specs.declared.look.Heads.TheVariants.{AtBoth}
use Rattle.gd_base.specs.declared.look.Looks.{Looks}
use Rattle.gd_base.specs.declared.object.Ends.{Ends}
use Rattle.gd_base.specs.declared.op.Op.TheVariants as op
use Rattle.gd_base.specs.declared.refusal.EditRefusal.{EditRefusal}
use Rattle.gd_base.specs.declared.refusal.EditRefusal.TheVariants as why
use Rattle.gd_base.specs.declared.shape.Shape.TheVariants.{Rect}
use Rattle.gd_events.specs.Events.{Event}
use Rattle.gd_events.specs.Ops.{Op}
use Rattle.gd_lines.specs.Edits.{Edit}
use Rattle.gd_model.specs.Objects.{new_connector, new_shape}
use Rattle.gd_model.specs.Undoing.{Before}
use Rattle.gd_model.specs.declared.form.Form.TheVariants.{Sets, Puts}
use Rattle.gd_rows.specs.Worked.{at_stamp, event, group_line, member, square, square_line}
use Rattle.gd_rows.specs.WorkedPairs.{Pair, Apart, Covered, Redone, first, last}

-- ---- the board

-- ends of site 1
abbrev pub between : ℕ → ℕ → Ends
between from to = record { from = at_stamp from 1; to = at_stamp to 1 }

abbrev pub board : List Event
board =
    event 1 1 1 (square (pos 0))
    ∷ event 2 1 2 (square (pos 20))
    ∷ event 3 1 3 (op.Connect (between 1 2) [])
    ∷ event 4 1 4 (square (pos 40))
    ∷ []

-- and these besides, at the clocks from 5 on
abbrev pub then_one : Op → List Event
then_one change = board ++ event 5 1 5 change ∷ []

abbrev pub then_two : Op → Op → List Event
then_two change other = then_one change ++ event 6 1 6 other ∷ []

-- ---- what is done

abbrev pub deletes : ℕ → Op
deletes clock = op.Delete (at_stamp clock 1)

abbrev pub raises : ℕ → Op
raises clock = op.Set (at_stamp clock 1) (ToRank (To Top))

abbrev pub reconnects : ℕ → ℕ → ℕ → Op
reconnects clock from to = op.Set (at_stamp clock 1) (ToEnds (Some (between from to)))

-- looks of the first rect
abbrev pub styles : Looks → Op
styles looks = op.Set (at_stamp 1 1) (ToLooks looks)

abbrev pub red_dashed : Looks
red_dashed = record no_looks { stroke = Some 0xFF0000; dash = Some Dashed }

abbrev pub green : Looks
green = only_stroke 0x00FF00

abbrev pub dotted : Looks
dotted = record no_looks { dash = Some Dotted }

abbrev pub faint : Looks
faint = record no_looks { opacity = Some 50 }

abbrev pub green_dotted : Looks
green_dotted = record green { dash = Some Dotted }

abbrev pub green_faint : Looks
green_faint = record green { opacity = Some 50 }

-- the group of the first rect and of the connector, and of the two rects
abbrev pub groups : ℕ → ℕ → Op
groups one other = op.Group (member one 1 (pos 0) (pos 0) ∷ member other 1 (pos 0) (pos 0) ∷ [])

-- ---- what is shown

abbrev pub rect_one : String → List ℕ
rect_one group = square_line "1.1" group "0 0"

abbrev pub rect_two : String → List ℕ
rect_two group = square_line "2.1" group "20 0"

abbrev pub rect_four : List ℕ
rect_four = square_line "4.1" "-" "40 0"

-- the first rect with that stroke, and these other looks
abbrev pub styled_one : String → String → List ℕ
styled_one stroke looks =
    codes "rect 1.1 in - at 0 0 size 10 10 stroke " ++ codes stroke ++ codes " fill none width 1" ++ codes looks
    ++ codes "\n"

-- a connector as it was made: of that id, in that group, between these
abbrev pub arrow_line : String → String → String → String → List ℕ
arrow_line id group from to =
    codes "connector " ++ codes id ++ codes " in " ++ codes group ++ codes " from " ++ codes from ++ codes " to "
    ++ codes to
    ++ codes " stroke 000000 fill none width 1 heads end\n"

abbrev pub arrow : String → String → List ℕ
arrow from to = arrow_line "3.1" "-" from to

-- the first rect so, the connector between these, and all else as it was
abbrev pub shown_with : List ℕ → List ℕ → List (List ℕ)
shown_with one connector = one ∷ rect_two "-" ∷ connector ∷ rect_four ∷ codes "end 4\n" ∷ []

abbrev pub whole : List (List ℕ)
whole = shown_with (rect_one "-") (arrow "1.1" "2.1")

abbrev pub led : String → String → List (List ℕ)
led from to = shown_with (rect_one "-") (arrow from to)

abbrev pub styled : String → String → List (List ℕ)
styled stroke looks = shown_with (styled_one stroke looks) (arrow "1.1" "2.1")

-- the first rect gone, with what leads to it, or what doesn't still there; and the connector gone
abbrev pub one_gone : List (List ℕ)
one_gone = rect_two "-" ∷ rect_four ∷ codes "end 2\n" ∷ []

abbrev pub one_gone_led : List (List ℕ)
one_gone_led = rect_two "-" ∷ arrow "2.1" "4.1" ∷ rect_four ∷ codes "end 3\n" ∷ []

abbrev pub connector_gone : List (List ℕ)
connector_gone = rect_one "-" ∷ rect_two "-" ∷ rect_four ∷ codes "end 3\n" ∷ []

-- drawings of which each is what these events leave
abbrev pub pictures : List (List Event × List (List ℕ))
pictures =
    (board, whole)
    -- an end is gone, and is back: under its rank, so that the connector lies above both
    ∷ (then_one (deletes 1), one_gone)
    ∷ (
      then_two (deletes 1) (op.Restore (at_stamp 1 1)
          (new_shape (at_stamp 1 1) Rect (pos 0) (pos 0) (pos 10) (pos 10) []) []),
      whole,
    )
    -- an end that is raised lies above the connector
    ∷ (then_one (raises 1), rect_two "-" ∷ arrow "1.1" "2.1" ∷ rect_four ∷ rect_one "-" ∷ codes "end 4\n" ∷ [])
    -- the ends in a group: the connector is in none
    ∷ (
      then_one (groups 1 2),
      arrow "1.1" "2.1" ∷ rect_four ∷ group_line "5.1" "-" "0 0" ∷ rect_one "5.1" ∷ rect_two "5.1" ∷ codes "end 5\n"
          ∷ [],
    )
    -- the connector and an end in a group, which is moved, dissolved or deleted
    ∷ (
      then_one (groups 1 3),
      rect_two "-" ∷ rect_four ∷ group_line "5.1" "-" "0 0" ∷ rect_one "5.1" ∷ arrow_line "3.1" "5.1" "1.1" "2.1"
          ∷ codes "end 5\n" ∷ [],
    )
    ∷ (
      then_two (groups 1 3) (op.Set (at_stamp 5 1) (ToPlace (pos 5) (pos 7))),
      rect_two "-" ∷ rect_four ∷ group_line "5.1" "-" "5 7" ∷ square_line "1.1" "5.1" "5 7"
          ∷ arrow_line "3.1" "5.1" "1.1" "2.1"
          ∷ codes "end 5\n" ∷ [],
    )
    ∷ (then_two (groups 1 3) (op.Set (at_stamp 5 1) (ToFlag true)), whole)
    ∷ (then_two (groups 1 3) (deletes 5), one_gone)
    -- a connector has no place and no size
    ∷ (then_one (op.Set (at_stamp 3 1) (ToPlace (pos 5) (pos 5))), whole)
    ∷ (then_one (op.Set (at_stamp 3 1) (ToSize (pos 5) (pos 5))), whole)
    -- it ends nowhere but at a shape or a group that is there, and what is no connector has no ends
    ∷ (then_one (op.Connect (between 1 3) []), whole)
    ∷ (then_one (op.Connect (between 1 5) []), whole)
    ∷ (then_one (reconnects 3 3 1), connector_gone)
    ∷ (then_one (reconnects 1 2 4), whole)
    -- both its ends may be one
    ∷ (then_one (reconnects 3 4 4), led "4.1" "4.1")
    -- its look, and its label, in which a line feed is a backslash and an n
    ∷ (
      then_two (op.Set (at_stamp 3 1) (ToLooks (record green_dotted { heads = Some AtBoth })))
          (op.Set (at_stamp 3 1) (ToText (codes "a" ++ 10 ∷ codes "b\\"))),
      shown_with (rect_one "-")
          (codes "connector 3.1 in - from 1.1 to 2.1 stroke 00FF00 fill none width 1 dash dotted heads both text a\\nb\\\\\n"),
    )
    ∷ []

-- ---- edits

abbrev pub deleting : ℕ → Edit
deleting clock = op.Delete (at_stamp clock 1)

abbrev pub leading : ℕ → ℕ → ℕ → Edit
leading clock from to = op.Set (at_stamp clock 1) (ToEnds (Some (between from to)))

-- what they become over the board, where 1.1 and 2.1 are in the group 5.1
abbrev pub edits : List (Edit × Result Op EditRefusal)
edits =
    (op.Connect (between 2 4) (codes "a"), Ok (op.Connect (between 2 4) (codes "a")))
    ∷ (op.Connect (between 4 5) [], Ok (op.Connect (between 4 5) []))
    ∷ (op.Connect (between 1 5) [], Ok (op.Connect (between 1 5) []))
    ∷ (op.Connect (between 9 1) [], Err why.NoObject)
    ∷ (op.Connect (between 3 9) [], Err why.NoObject)
    ∷ (op.Connect (between 1 3) [], Err why.NotPlaced)
    ∷ (op.Connect (between 3 3) [], Err why.NotPlaced)
    ∷ (op.Connect (between 1 1) [], Err why.SameMember)
    ∷ (leading 3 2 1, Ok (reconnects 3 2 1))
    ∷ (leading 3 5 4, Ok (reconnects 3 5 4))
    ∷ (leading 9 1 2, Err why.NoObject)
    ∷ (leading 1 9 2, Err why.NoObject)
    ∷ (leading 1 2 9, Err why.NoObject)
    ∷ (leading 1 1 1, Err why.NotConnector)
    ∷ (leading 5 3 1, Err why.NotConnector)
    ∷ (leading 3 3 1, Err why.NotPlaced)
    ∷ (leading 3 1 3, Err why.NotPlaced)
    ∷ (leading 3 4 4, Err why.SameMember)
    ∷ (op.Set (at_stamp 3 1) (ToPlace (pos 1) (pos 1)), Err why.NotPlaced)
    ∷ (op.Set (at_stamp 3 1) (ToSize (pos 1) (pos 1)), Err why.NotPlaced)
    ∷ (op.Set (at_stamp 3 1) (ToFlag true), Err why.NotGroup)
    ∷ (op.Set (at_stamp 3 1) (ToText (codes "a")), Ok (op.Set (at_stamp 3 1) (ToText (codes "a"))))
    ∷ (op.Set (at_stamp 3 1) (ToLooks green_faint), Ok (op.Set (at_stamp 3 1) (ToLooks green_faint)))
    ∷ (op.Set (at_stamp 1 1) (ToLooks green_faint), Ok (styles green_faint))
    ∷ (op.Set (at_stamp 5 1) (ToLooks green_faint), Err why.NotShape)
    ∷ (op.Set (at_stamp 5 1) (ToText []), Err why.NotShape)
    ∷ (op.Group (at_stamp 4 1 ∷ at_stamp 3 1 ∷ []), Ok (groups 3 4))
    ∷ []

-- nothing is done to a connector whose end is gone
abbrev pub hidden_edits : List (Edit × Result Op EditRefusal)
hidden_edits =
    (deleting 3, Err why.NoObject)
    ∷ (leading 3 2 4, Err why.NoObject)
    ∷ (op.Set (at_stamp 3 1) (ToRank Top), Err why.NoObject)
    ∷ (op.Connect (between 2 4) [], Ok (op.Connect (between 2 4) []))
    ∷ []

-- ---- two events at once

-- a connector of the first two rects besides
abbrev pub connects : Event
connects = event 7 1 5 (op.Connect (between 1 2) [])

-- Nothing of what it leads to hangs on it, and nothing of it on that.
abbrev pub connect_pairs : List Pair
connect_pairs =
    first board connects (deletes 1) Apart one_gone
    ∷ last board connects (deletes 1) Apart one_gone
    ∷ first board connects (deletes 3) Apart
    (rect_one "-" ∷ rect_two "-" ∷ rect_four ∷ arrow_line "7.1" "-" "1.1" "2.1" ∷ codes "end 4\n" ∷ [])
    ∷ last board connects (deletes 7) Covered whole
    ∷ last board connects (raises 7) Redone
    (rect_one "-" ∷ rect_two "-" ∷ arrow "1.1" "2.1" ∷ rect_four ∷ arrow_line "7.1" "-" "1.1" "2.1" ∷ codes "end 5\n"
    ∷ [])
    ∷ last board connects (reconnects 7 4 1) Redone
    (rect_one "-" ∷ rect_two "-" ∷ arrow "1.1" "2.1" ∷ rect_four ∷ arrow_line "7.1" "-" "4.1" "1.1" ∷ codes "end 5\n"
    ∷ [])
    ∷ []

abbrev pub leads_on : Event
leads_on = event 7 1 5 (reconnects 3 2 4)

abbrev pub reconnect_pairs : List Pair
reconnect_pairs =
    first board leads_on (reconnects 3 1 4) Covered (led "2.1" "4.1")
    ∷ last board leads_on (reconnects 3 1 4) Covered (led "1.1" "4.1")
    ∷ first board leads_on (deletes 3) Redone connector_gone
    ∷ last board leads_on (deletes 3) Covered connector_gone
    ∷ first board leads_on (deletes 1) Apart one_gone_led
    ∷ last board leads_on (deletes 1) Apart one_gone_led
    ∷ first board leads_on (raises 3) Apart
    (rect_one "-" ∷ rect_two "-" ∷ rect_four ∷ arrow "2.1" "4.1" ∷ codes "end 4\n" ∷ [])
    ∷ first board leads_on (styles faint) Apart (shown_with (styled_one "000000" " opacity 50") (arrow "2.1" "4.1"))
    ∷ []

abbrev pub redresses : Event
redresses = event 7 1 5 (styles red_dashed)

-- What sets all parts that the earlier one sets covers it; parts that both set are done again; and others are apart.
abbrev pub style_pairs : List Pair
style_pairs =
    first board redresses (styles green) Covered (styled "FF0000" " dash dashed")
    ∷ last board redresses (styles green) Redone (styled "00FF00" " dash dashed")
    ∷ first board redresses (styles dotted) Covered (styled "FF0000" " dash dashed")
    ∷ last board redresses (styles dotted) Redone (styled "FF0000" " dash dotted")
    ∷ first board redresses (styles green_dotted) Covered (styled "FF0000" " dash dashed")
    ∷ last board redresses (styles green_dotted) Covered (styled "00FF00" " dash dotted")
    ∷ first board redresses (styles green_faint) Redone (styled "FF0000" " dash dashed opacity 50")
    ∷ last board redresses (styles green_faint) Redone (styled "00FF00" " dash dashed opacity 50")
    ∷ first board redresses (styles faint) Apart (styled "FF0000" " dash dashed opacity 50")
    ∷ last board redresses (styles faint) Apart (styled "FF0000" " dash dashed opacity 50")
    ∷ first board redresses (op.Set (at_stamp 1 1) (ToText (codes "a"))) Apart (styled "FF0000" " dash dashed text a")
    ∷ first board redresses (op.Set (at_stamp 3 1) (ToLooks (record no_looks { heads = Some AtBoth }))) Apart
    (shown_with (styled_one "FF0000" " dash dashed")
    (codes "connector 3.1 in - from 1.1 to 2.1 stroke 000000 fill none width 1 heads both\n"))
    ∷ first board redresses (deletes 1) Redone one_gone
    ∷ last board redresses (deletes 1) Covered one_gone
    ∷ []

abbrev pub old_connector : Object
old_connector = new_connector (at_stamp 3 1) (between 1 2) []

-- the connector was deleted, and is restored
abbrev pub restores : Event
restores = event 7 1 6 (op.Restore (at_stamp 3 1) old_connector [])

abbrev pub restore_pairs : List Pair
restore_pairs =
    first (then_one (deletes 3)) restores (reconnects 3 2 4) Redone whole
    ∷ last (then_one (deletes 3)) restores (reconnects 3 2 4) Redone (led "2.1" "4.1")
    ∷ first (then_one (deletes 3)) restores (deletes 3) Redone whole
    ∷ last (then_one (deletes 3)) restores (deletes 3) Covered connector_gone
    ∷ first (then_one (deletes 3)) restores (deletes 1) Apart one_gone
    ∷ last (then_one (deletes 3)) restores (deletes 1) Apart one_gone
    ∷ []

-- ---- splices

-- what an event that is dropped finds, and what the one that covers it finds then
pub record Splice : Type 0 where
  pub dropped : Op
  pub cover : Op
  pub found : Before
  pub finds : Before × Before

abbrev pub spliced : Op → Op → Before → Before → Before → Splice
spliced dropped cover found first second =
    record { dropped = dropped; cover = cover; found = found; finds = (first, second) }

-- the ends, and looks, as they are found
abbrev pub ends_were : ℕ → ℕ → Before
ends_were from to = Some (Sets (at_stamp 3 1) (ToEnds (Some (between from to))))

abbrev pub looks_were : Looks → Before
looks_were looks = Some (Sets (at_stamp 1 1) (ToLooks looks))

-- the connector as it was, between these
abbrev pub was_between : ℕ → ℕ → Before
was_between from to = Some (Puts (at_stamp 3 1) (record old_connector { ends = Some (between from to) }) [])

abbrev pub splices : List Splice
splices =
    spliced (reconnects 3 1 4) (reconnects 3 2 4) (ends_were 1 2) (ends_were 1 2) (ends_were 1 4)
    ∷ spliced (reconnects 3 1 4) (deletes 3) (was_between 1 2) (ends_were 1 2) (was_between 1 4)
    ∷ spliced (styles green) (styles red_dashed) (looks_were (record no_looks { stroke = Some 0; dash = Some Solid }))
    (looks_were (only_stroke 0))
    (looks_were (record green { dash = Some Solid }))
    -- where the object isn't there neither finds anything
    ∷ spliced (styles green) (styles red_dashed) None None None
    ∷ []
