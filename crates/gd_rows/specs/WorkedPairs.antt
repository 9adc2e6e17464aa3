-- Worked rows of what an undo or a redo does beside what another site does at once: a delete, a raise, a group. Each
-- in both orders of their stamps, and each pair in both orders of arrival.
--
-- On the board stand the rects 1.1 and 2.1 in the group 3.1, and above it the rect 4.1 in none. Site 1 takes
-- something back at 7.1. Site 2 comes before that, at 6.2, or behind it, at 8.2. What the two touch, and so what
-- comes of the earlier one where it arrives last, is read off the tables of docs/FORMATS.md, section 3.
use Prim.Native.String.{String}
use Rattle.std.specs.Prelude.{ℕ, pos, Bool, true, false, List, [], ◌∷◌, ◌++◌, codes, Some, None}
use Rattle.gd_base.specs.declared.content.Content.TheVariants.{ToFlag, ToRank}
use Rattle.gd_base.specs.declared.content.Height.TheVariants.{To, At}
use Rattle.gd_base.specs.declared.content.Side.TheVariants.{Top}
use Rattle.gd_base.specs.declared.object.Link.{Link}
use Rattle.gd_base.specs.declared.op.Op.TheVariants.{Delete, Set, Group, Restore, Disband}
use Rattle.gd_base.specs.declared.rank.Rank.TheVariants.{High}
use Rattle.gd_base.specs.declared.shape.Shape.TheVariants.{Rect}
use Rattle.gd_base.specs.declared.ties.Tie.{Tie}
use Rattle.gd_events.specs.Events.{Event}
use Rattle.gd_events.specs.Ops.{Op}
use Rattle.gd_model.specs.Arrivals.{drawn, all_drawn, outcome_of}
use Rattle.gd_model.specs.Drawing.{picture}
use Rattle.gd_model.specs.Objects.{new_group, new_shape}
use Rattle.gd_model.specs.Relations.{covers, independent}
use Rattle.gd_reference.specs.DrawingText.{text}
use Rattle.gd_repair.specs.Repair.{Stamped, Outcome, applied, dropped, reworked}
use Rattle.gd_rows.specs.Worked.{at_stamp, event, group_line, member, square, square_line}

-- ---- two events at once

-- what comes of the earlier one where it arrives last: it is independent of the later one, or covered by it, or neither
pub data Relation : Type 0 where
  Apart : Relation
  Covered : Relation
  Redone : Relation

pub record Pair : Type 0 where
  pub board : List Event
  pub earlier : Event
  pub later : Event
  pub relation : Relation
  pub shown : List (List ℕ)

-- the other site comes first, and last
abbrev pub first : List Event → Event → Op → Relation → List (List ℕ) → Pair
first board turn other relation shown =
    record { board = board; earlier = event 6 2 1 other; later = turn; relation = relation; shown = shown }

abbrev pub last : List Event → Event → Op → Relation → List (List ℕ) → Pair
last board turn other relation shown =
    record { board = board; earlier = turn; later = event 8 2 1 other; relation = relation; shown = shown }

abbrev pub in_turn : Pair → List Event
in_turn p = p.board ++ p.earlier ∷ p.later ∷ []

abbrev pub out_of_turn : Pair → List Event
out_of_turn p = p.board ++ p.later ∷ p.earlier ∷ []

-- whether the two are independent, asked of either one, and whether the later one covers the earlier one
abbrev pub bears : Pair → List Bool
bears p =
    independent p.earlier.stamp p.earlier.op p.later.stamp p.later.op
    ∷ independent p.later.stamp p.later.op p.earlier.stamp p.earlier.op
    ∷ covers p.later.stamp p.later.op p.earlier.stamp p.earlier.op
    ∷ []

abbrev pub bears_as : Relation → List Bool
bears_as Apart = true ∷ true ∷ false ∷ []
bears_as Covered = false ∷ false ∷ true ∷ []
bears_as Redone = false ∷ false ∷ false ∷ []

-- what comes of the earlier one where it arrives last, and of the later one where that does
abbrev pub outcomes : Pair → List (Outcome (Stamped Op))
outcomes p = outcome_of (p.board ++ p.later ∷ []) p.earlier ∷ outcome_of (p.board ++ p.earlier ∷ []) p.later ∷ []

abbrev pub outcomes_as : Relation → Event → List (Outcome (Stamped Op))
outcomes_as Apart later = applied ∷ applied ∷ []
outcomes_as Covered later = dropped (drawn later) ∷ applied ∷ []
outcomes_as Redone later = reworked (all_drawn (later ∷ [])) ∷ applied ∷ []

-- the drawings of a pair in both orders of arrival
abbrev pub drawings : Pair → List (List (List ℕ))
drawings p = text (picture (in_turn p)) ∷ text (picture (out_of_turn p)) ∷ []

-- ---- the board

abbrev pub board : List Event
board =
    event 1 1 1 (square (pos 0))
    ∷ event 2 1 2 (square (pos 20))
    ∷ event 3 1 3 (Group (member 1 1 (pos 0) (pos 0) ∷ member 2 1 (pos 0) (pos 0) ∷ []))
    ∷ event 4 1 4 (square (pos 40))
    ∷ []

-- and one event more, which is taken back
abbrev pub board_and : Op → List Event
board_and op = board ++ event 5 1 5 op ∷ []

abbrev pub free : ℕ → Tie
free clock = record { id = at_stamp clock 1; link = None }

abbrev pub grouped : Link
grouped = record { parent = at_stamp 3 1; dx = pos 0; dy = pos 0 }

abbrev pub tied : ℕ → Tie
tied clock = record { id = at_stamp clock 1; link = Some grouped }

-- ---- what the other site does

abbrev pub deletes : ℕ → Op
deletes clock = Delete (at_stamp clock 1)

abbrev pub raises : ℕ → Op
raises clock = Set (at_stamp clock 1) (ToRank (To Top))

-- a group of that object and the rect 4.1
abbrev pub groups : ℕ → Op
groups clock = Group (member clock 1 (pos 0) (pos 0) ∷ member 4 1 (pos 0) (pos 0) ∷ [])

-- ---- what is shown

-- the rects, in that group, and the group 3.1
abbrev pub rect_one : String → List ℕ
rect_one group = square_line "1.1" group "0 0"

abbrev pub rect_two : String → List ℕ
rect_two group = square_line "2.1" group "20 0"

abbrev pub rect_four : String → List ℕ
rect_four group = square_line "4.1" group "40 0"

abbrev pub group_three : String → List ℕ
group_three group = group_line "3.1" group "0 0"

-- another group, at the top
abbrev pub group_of : String → List ℕ
group_of id = group_line id "-" "0 0"

-- the board as it was, and with the rects in the group the other way round
abbrev pub whole : List (List ℕ)
whole = group_three "-" ∷ rect_one "3.1" ∷ rect_two "3.1" ∷ rect_four "-" ∷ codes "end 4\n" ∷ []

abbrev pub whole_raised : List (List ℕ)
whole_raised = group_three "-" ∷ rect_two "3.1" ∷ rect_one "3.1" ∷ rect_four "-" ∷ codes "end 4\n" ∷ []

-- the group above the rect
abbrev pub group_raised : List (List ℕ)
group_raised = rect_four "-" ∷ group_three "-" ∷ rect_one "3.1" ∷ rect_two "3.1" ∷ codes "end 4\n" ∷ []

-- the first rect gone, and the group gone, with what is in it
abbrev pub one_gone : List (List ℕ)
one_gone = group_three "-" ∷ rect_two "3.1" ∷ rect_four "-" ∷ codes "end 3\n" ∷ []

abbrev pub three_gone : List (List ℕ)
three_gone = rect_four "-" ∷ codes "end 1\n" ∷ []

-- three rects in no group, and the last two
abbrev pub apart : List (List ℕ)
apart = rect_one "-" ∷ rect_two "-" ∷ rect_four "-" ∷ codes "end 3\n" ∷ []

abbrev pub apart_raised : List (List ℕ)
apart_raised = rect_two "-" ∷ rect_four "-" ∷ rect_one "-" ∷ codes "end 3\n" ∷ []

abbrev pub two_apart : List (List ℕ)
two_apart = rect_two "-" ∷ rect_four "-" ∷ codes "end 2\n" ∷ []

-- the other group has the rect 4.1 alone, or the first rect too, or the group too
abbrev pub four_in : String → List (List ℕ)
four_in other =
    group_three "-" ∷ rect_one "3.1" ∷ rect_two "3.1" ∷ group_of other ∷ rect_four other ∷ codes "end 5\n" ∷ []

abbrev pub one_in : String → List (List ℕ)
one_in other =
    group_three "-" ∷ rect_two "3.1" ∷ group_of other ∷ rect_one other ∷ rect_four other ∷ codes "end 5\n" ∷ []

abbrev pub three_in : String → List (List ℕ)
three_in other =
    group_of other ∷ group_three other ∷ rect_one "3.1" ∷ rect_two "3.1" ∷ rect_four other ∷ codes "end 5\n" ∷ []

-- the same where the group is disbanded
abbrev pub apart_four_in : String → List (List ℕ)
apart_four_in other = rect_one "-" ∷ rect_two "-" ∷ group_of other ∷ rect_four other ∷ codes "end 4\n" ∷ []

abbrev pub apart_one_in : String → List (List ℕ)
apart_one_in other = rect_two "-" ∷ group_of other ∷ rect_one other ∷ rect_four other ∷ codes "end 4\n" ∷ []

-- ---- a restore: the first rect was deleted

abbrev pub deleted : List Event
deleted = board_and (deletes 1)

abbrev pub restores : Event
restores =
    event 7 1 6
    (Restore (at_stamp 1 1)
    (record (new_shape (at_stamp 1 1) Rect (pos 0) (pos 0) (pos 10) (pos 10) []) { link = Some grouped })
    [])

-- What comes before it finds nothing. Only a delete of what it puts back covers it.
abbrev pub restore_pairs : List Pair
restore_pairs =
    first deleted restores (deletes 1) Redone whole
    ∷ last deleted restores (deletes 1) Covered one_gone
    ∷ first deleted restores (raises 1) Redone whole
    ∷ last deleted restores (raises 1) Redone whole_raised
    ∷ first deleted restores (groups 1) Redone (four_in "6.2")
    ∷ last deleted restores (groups 1) Redone (one_in "8.2")
    ∷ []

-- ---- a restore with ties: the group was taken back

abbrev pub disbanded : List Event
disbanded = board_and (Disband (at_stamp 3 1) (free 1 ∷ free 2 ∷ []))

abbrev pub regroups : Event
regroups = event 7 1 6 (Restore (at_stamp 3 1) (new_group (at_stamp 3 1)) (tied 1 ∷ tied 2 ∷ []))

-- A delete doesn't cover it, since the ties stay: what they tie is hidden. Of a rect it touches the link alone.
abbrev pub regroup_pairs : List Pair
regroup_pairs =
    first disbanded regroups (deletes 3) Redone whole
    ∷ last disbanded regroups (deletes 3) Redone three_gone
    ∷ first disbanded regroups (raises 3) Redone whole
    ∷ last disbanded regroups (raises 3) Redone group_raised
    ∷ first disbanded regroups (groups 3) Redone (four_in "6.2")
    ∷ last disbanded regroups (groups 3) Redone (three_in "8.2")
    ∷ first disbanded regroups (deletes 1) Redone one_gone
    ∷ last disbanded regroups (deletes 1) Redone one_gone
    ∷ first disbanded regroups (raises 1) Apart whole_raised
    ∷ last disbanded regroups (raises 1) Apart whole_raised
    ∷ first disbanded regroups (groups 1) Redone (four_in "6.2")
    ∷ last disbanded regroups (groups 1) Redone (one_in "8.2")
    ∷ []

-- ---- a disband: the group is taken back

abbrev pub disbands : Event
disbands = event 7 1 5 (Disband (at_stamp 3 1) (free 1 ∷ free 2 ∷ []))

-- Where the group is gone before it, it does nothing, so that what was in the group stays hidden.
abbrev pub disband_pairs : List Pair
disband_pairs =
    first board disbands (deletes 3) Redone three_gone
    ∷ last board disbands (deletes 3) Redone apart
    ∷ first board disbands (raises 3) Redone apart
    ∷ last board disbands (raises 3) Redone apart
    ∷ first board disbands (groups 3) Redone (apart_four_in "6.2")
    ∷ last board disbands (groups 3) Redone (apart_four_in "8.2")
    ∷ first board disbands (deletes 1) Redone two_apart
    ∷ last board disbands (deletes 1) Redone two_apart
    ∷ first board disbands (raises 1) Apart apart_raised
    ∷ last board disbands (raises 1) Apart apart_raised
    ∷ first board disbands (groups 1) Redone (apart_four_in "6.2")
    ∷ last board disbands (groups 1) Redone (apart_one_in "8.2")
    ∷ []

-- ---- a rank as it was: the first rect was raised

abbrev pub raised : List Event
raised = board_and (raises 1)

abbrev pub reranks : Event
reranks = event 7 1 6 (Set (at_stamp 1 1) (ToRank (At (High (at_stamp 1 1)))))

abbrev pub rerank_pairs : List Pair
rerank_pairs =
    first raised reranks (deletes 1) Redone one_gone
    ∷ last raised reranks (deletes 1) Covered one_gone
    ∷ first raised reranks (raises 1) Covered whole
    ∷ last raised reranks (raises 1) Covered whole_raised
    ∷ first raised reranks (groups 1) Apart (one_in "6.2")
    ∷ last raised reranks (groups 1) Apart (one_in "8.2")
    ∷ []

-- ---- a group that is whole again: it was dissolved

abbrev pub dissolved : List Event
dissolved = board_and (Set (at_stamp 3 1) (ToFlag true))

abbrev pub reopens : Event
reopens = event 7 1 6 (Set (at_stamp 3 1) (ToFlag false))

abbrev pub reopen_pairs : List Pair
reopen_pairs =
    first dissolved reopens (deletes 3) Redone three_gone
    ∷ last dissolved reopens (deletes 3) Covered three_gone
    ∷ first dissolved reopens (raises 3) Apart group_raised
    ∷ last dissolved reopens (raises 3) Apart group_raised
    ∷ first dissolved reopens (groups 3) Apart (three_in "6.2")
    ∷ last dissolved reopens (groups 3) Apart (three_in "8.2")
    ∷ []
