-- Worked rows of gestures: the lines between a `begin` and its `end`, what a node does then, and what an undo of them
-- does.
use Rattle.std.specs.Prelude.{ℕ, ◌-◌, pos, true, List, [], ◌∷◌, ◌++◌, replicate, codes, get_or, Ok, Err}
use Rattle.std.specs.List.{concat}
use Rattle.gd_base.specs.declared.content.Content.TheVariants.{ToFlag}
use Rattle.gd_base.specs.declared.op.Op.TheVariants as op
use Rattle.gd_base.specs.declared.refusal.LineFault.TheVariants.{LongLine}
use Rattle.gd_effects.specs.Effects.{Effect, Head, Print, Record, Try, Work}
use Rattle.gd_events.specs.Events.{Event}
use Rattle.gd_events.specs.Ops.{Op}
use Rattle.gd_lines.specs.declared.command.Command.{Command}
use Rattle.gd_lines.specs.declared.command.Command.TheVariants as command
use Rattle.gd_lines.specs.declared.command.Turn.TheVariants.{Undo, Redo}
use Rattle.gd_outside.specs.Seen.{Entry, Packet}
use Rattle.gd_reference.specs.Backs.{Backs}
use Rattle.gd_reference.specs.NodeRun.{HeardLine, ReadLine}
use Rattle.gd_reference.specs.TakeBack.{Asked}
use Rattle.gd_rows.specs.Worked.{at_stamp, event, header_three_bytes, record_check, record_event, record_row}
use Rattle.gd_rows.specs.WorkedBacks.{edits, gestures_of, place_of, rect_of, turns}
use Rattle.gd_rows.specs.WorkedNodes.{asked}
use Rattle.gd_rows.specs.WorkedWorlds.{ahead_move, first_rect, move_to, new_rect}

-- ---- two edits, and a refused line between them

-- the move is of what the first line makes
abbrev pub between : List Command
between =
    command.Edit (new_rect (pos 0))
    ∷ command.Edit (op.Set (at_stamp 1 1) (ToFlag true))
    ∷ command.Edit (move_to 1 1 50 60)
    ∷ []

abbrev pub gesture : List Command → List HeardLine
gesture lines = asked (command.Begin ∷ lines ++ command.End ∷ [])

-- what node 1 of 2 in session 7 begins with
abbrev pub begun : List Effect
begun = Head header_three_bytes ∷ Print (codes "ready 1 of 2\n") ∷ []

-- the records: a create, and a move of that object to a place
abbrev pub create_row : List ℕ
create_row =
    0 ∷ 0 ∷ 0 ∷ 0 ∷ 0 ∷ 1 ∷ 1 ∷ 0 ∷ 1 ∷ 1 ∷ 1
    ∷ 0 ∷ 0 ∷ 0 ∷ 0 ∷ 0 ∷ 0 ∷ 0 ∷ 0 ∷ 0 ∷ 0 ∷ 0 ∷ 10 ∷ 0 ∷ 0 ∷ 0 ∷ 10 ∷ 0 ∷ []

abbrev pub move_row : ℕ → ℕ → ℕ → List ℕ
move_row k x y =
    0 ∷ 0 ∷ 0 ∷ 0 ∷ 0 ∷ k ∷ 1 ∷ 0 ∷ k ∷ 3 ∷ 0 ∷ 0 ∷ 0 ∷ 0 ∷ 0 ∷ 1 ∷ 1 ∷ 0 ∷ 0 ∷ 0 ∷ x ∷ 0 ∷ 0 ∷ 0 ∷ y ∷ []

-- the checks of the first event, of the first two, and so on, of the gesture and of what takes it back and does it
-- again
abbrev pub checks_on_the_way : List (List ℕ)
checks_on_the_way =
    (30 ∷ 43 ∷ 197 ∷ 94 ∷ [])
    ∷ (35 ∷ 82 ∷ 63 ∷ 148 ∷ [])
    ∷ (92 ∷ 61 ∷ 191 ∷ 125 ∷ [])
    ∷ (116 ∷ 87 ∷ 235 ∷ 233 ∷ [])
    ∷ (8 ∷ 40 ∷ 124 ∷ 120 ∷ [])
    ∷ (95 ∷ 100 ∷ 155 ∷ 172 ∷ [])
    ∷ []

-- that of the first so many
abbrev pub own_checks : ℕ → List ℕ
own_checks k = get_or checks_on_the_way (k - 1) []

-- the frame for site 2 with so many own events, and with that checksum
abbrev pub own_frame : ℕ → List ℕ → List ℕ → List ℕ
own_frame k rows checksum =
    71 ∷ 68 ∷ 79 ∷ 70 ∷ 3 ∷ 0 ∷ 0 ∷ 0 ∷ 7 ∷ 1 ∷ 2 ∷ 0 ∷ 0 ∷ 0 ∷ k ∷ 0 ∷ 0 ∷ 0 ∷ 0 ∷ 0 ∷ k ∷ own_checks k
    ++ 0 ∷ 0 ∷ 0 ∷ 0 ∷ 0 ∷ 0 ∷ 0 ∷ 0 ∷ 0 ∷ 0 ∷ k ∷ rows ++ checksum

abbrev pub move_event : Event
move_event = event 2 1 2 (place_of 1 1 50 60)

abbrev pub both : List Event
both = first_rect ∷ move_event ∷ []

-- a step for each event, one record of both, a line for each of the three, and one frame
abbrev pub gesture_effects : List Effect
gesture_effects =
    begun
    ++ Work 1 ∷ Work 1
    ∷ Record 11 [] both
    ∷ Print (codes "ok 1.1\n") ∷ Print (codes "refused: NotGroup\n") ∷ Print (codes "ok 2.1\n")
    ∷ Print (codes "end 3\n")
    ∷ Try 2 (own_frame 2 (create_row ++ move_row 2 50 60) (61 ∷ 80 ∷ 16 ∷ 135 ∷ []))
    ∷ []

-- the header, both events behind an open gate each, with their checks, and a closed gate
abbrev pub gesture_journal : List ℕ
gesture_journal =
    header_three_bytes ++ 195 ∷ create_row ++ own_checks 1 ++ 195 ∷ move_row 2 50 60 ++ own_checks 2 ++ 0 ∷ []

-- ---- the undo of it, and the redo

abbrev pub turned_gesture : List HeardLine
turned_gesture = gesture between ++ turns 2 Undo ++ turns 2 Redo

-- the last event is taken back first
abbrev pub undone : List Event
undone = event 3 1 3 (place_of 1 1 0 0) ∷ event 4 1 4 (op.Delete (at_stamp 1 1)) ∷ []

abbrev pub delete_row : List ℕ
delete_row = 0 ∷ 0 ∷ 0 ∷ 0 ∷ 0 ∷ 4 ∷ 1 ∷ 0 ∷ 4 ∷ 2 ∷ 0 ∷ 0 ∷ 0 ∷ 0 ∷ 0 ∷ 1 ∷ 1 ∷ []

abbrev pub redone : List Event
redone = event 5 1 5 (op.Restore (at_stamp 1 1) (rect_of 1 1) []) ∷ event 6 1 6 (place_of 1 1 50 60) ∷ []

abbrev pub restore_row : List ℕ
restore_row =
    0 ∷ 0 ∷ 0 ∷ 0 ∷ 0 ∷ 5 ∷ 1 ∷ 0 ∷ 5 ∷ 11 ∷ 0 ∷ 0 ∷ 0 ∷ 0 ∷ 0 ∷ 1 ∷ 1 ∷ 1 ∷ 0 ∷ 0 ∷ 0 ∷ 0 ∷ 0 ∷ 0 ∷ 0 ∷ 0
    ∷ 0 ∷ 0 ∷ 0 ∷ 10 ∷ 0 ∷ 0 ∷ 0 ∷ 10 ∷ 0 ∷ 0 ∷ 0 ∷ 0 ∷ 255 ∷ 255 ∷ 255 ∷ 255 ∷ 1 ∷ 0 ∷ 0 ∷ 255 ∷ 255 ∷ 255 ∷ 255 ∷ 100
    ∷ 0 ∷ 0
    ∷ 0 ∷ 0 ∷ 0 ∷ 0 ∷ 0 ∷ 1 ∷ 0 ∷ 0 ∷ 0 ∷ 0 ∷ 0 ∷ 1 ∷ 1 ∷ 0 ∷ []

-- With their gates and checks the records of the gesture have 33 and 30 bytes, and those of the undo 30 and 22. There
-- is no second gesture to take back, or to do again.
abbrev pub turned_effects : List Effect
turned_effects =
    gesture_effects
    ++ Work 1 ∷ Work 1
    ∷ Record 74 both undone
    ∷ Print (codes "ok 3.1\n") ∷ Print (codes "ok 4.1\n") ∷ Print (codes "end 2\n")
    ∷ Try 2 (own_frame 4 (create_row ++ move_row 2 50 60 ++ move_row 3 0 0 ++ delete_row) (78 ∷ 204 ∷ 202 ∷ 147 ∷ []))
    ∷ Print (codes "refused: NothingBack\n")
    ∷ Work 1 ∷ Work 1
    ∷ Record 126 (both ++ undone) redone
    ∷ Print (codes "ok 5.1\n") ∷ Print (codes "ok 6.1\n") ∷ Print (codes "end 2\n")
    ∷ Try 2
    (own_frame 6 (create_row ++ move_row 2 50 60 ++ move_row 3 0 0 ++ delete_row ++ restore_row ++ move_row 6 50 60)
    (4 ∷ 181 ∷ 181 ∷ 201 ∷ []))
    ∷ Print (codes "refused: NothingBack\n")
    ∷ []

abbrev pub turned_journal : List ℕ
turned_journal =
    header_three_bytes
    ++ 195 ∷ create_row ++ own_checks 1 ++ 195 ∷ move_row 2 50 60 ++ own_checks 2
    ++ 195 ∷ move_row 3 0 0 ++ own_checks 3 ++ 195 ∷ delete_row ++ own_checks 4
    ++ 195 ∷ restore_row ++ own_checks 5 ++ 195 ∷ move_row 6 50 60 ++ own_checks 6
    ++ 0 ∷ []

-- what takes both events back, and what does them again
abbrev pub both_back : List Op
both_back = place_of 1 1 0 0 ∷ op.Delete (at_stamp 1 1) ∷ []

abbrev pub both_again : List Op
both_again = op.Restore (at_stamp 1 1) (rect_of 1 1) [] ∷ place_of 1 1 50 60 ∷ []

-- the backs behind each of these
abbrev pub kept_on_the_way : List (List HeardLine × Backs)
kept_on_the_way =
    (gesture between, gestures_of (both_back ∷ []) [])
    ∷ (gesture between ++ turns 1 Undo, gestures_of [] (both_again ∷ []))
    ∷ (gesture between ++ turns 1 Undo ++ turns 1 Redo, gestures_of (both_back ∷ []) [])
    -- an edit behind it is a gesture of one
    ∷ (gesture between ++ edits (move_to 1 1 5 5 ∷ []), gestures_of ((place_of 1 1 50 60 ∷ []) ∷ both_back ∷ []) [])
    -- a gesture of which no line is accepted changes neither list, and one that is forgets what could be done again
    ∷ (
      gesture between ++ turns 1 Undo ++ gesture (command.Edit (move_to 9 9 0 0) ∷ command.Show ∷ []),
      gestures_of [] (both_again ∷ []),
    )
    ∷ (
      gesture between ++ turns 1 Undo ++ gesture (command.Edit (new_rect (pos 0)) ∷ []),
      gestures_of ((op.Delete (at_stamp 5 1) ∷ []) ∷ []) [],
    )
    ∷ []

-- ---- lines that aren't done

-- `end` alone; and within a gesture commands, faults, a blank line, and an `end` with a word behind it. Behind it a
-- gesture without lines, of which there is nothing to take back.
abbrev pub refused_input : List ℕ
refused_input = codes "end\nbegin\nshow\ndelete\n\nend 1\nbegin\nundo\npoll\nend\nbegin\nend\nundo\nshow\n"

abbrev pub refused_printed : List ℕ
refused_printed =
    codes "ready 1 of 2\nrefused: NoGesture\n"
    ++ codes "refused: InGesture\nrefused: WrongCount\nrefused: WrongCount\n"
    ++ codes "refused: InGesture\nrefused: InGesture\nrefused: InGesture\nend 6\n"
    ++ codes "end 0\nrefused: NothingBack\nend 0\n"

-- a poll within a gesture takes nothing from the link
abbrev pub polled_lines : List HeardLine
polled_lines = gesture (command.Poll ∷ []) ++ asked (command.Poll ∷ [])

abbrev pub polled_printed : List ℕ
polled_printed =
    codes "ready 1 of 2\nrefused: InGesture\nend 1\necho 1.2 applied create rect 0 0 10 10\npolled 3\n"

-- a gesture that never ends
abbrev pub unfinished_inputs : List (List ℕ)
unfinished_inputs =
    codes "begin\ncreate rect 0 0 10 10\nquit\nend\n"
    ∷ codes "begin\ncreate rect 0 0 10 10\n"
    ∷ []

-- ---- as many lines as may wait

abbrev pub waiting : ℕ → List Asked
waiting count = replicate count (Ok (new_rect (pos 0)))

abbrev pub one_more : ReadLine
one_more = Ok (command.Edit (new_rect (pos 0)))

-- lines that are one too many
abbrev pub too_many : List ReadLine
too_many = one_more ∷ Ok command.Show ∷ Err LongLine ∷ []

abbrev pub full_lines : List HeardLine
full_lines = gesture (replicate 514 command.Show)

abbrev pub full_printed : List ℕ
full_printed =
    codes "ready 1 of 1\n"
    ++ concat (replicate 512 (codes "refused: InGesture\n"))
    ++ codes "refused: GestureFull\nrefused: GestureFull\nend 514\n"

-- ---- a frame of two events

-- the record of a move to 1 1
abbrev pub other_move_row : List ℕ
other_move_row =
    0 ∷ 0 ∷ 0 ∷ 0 ∷ 0 ∷ 2 ∷ 2 ∷ 0 ∷ 2 ∷ 3 ∷ 0 ∷ 0 ∷ 0 ∷ 0 ∷ 0 ∷ 1 ∷ 2 ∷ 0 ∷ 0 ∷ 0 ∷ 1 ∷ 0 ∷ 0 ∷ 0 ∷ 1 ∷ []

-- the check of site 2's create and that move
abbrev pub pair_check : List ℕ
pair_check = 36 ∷ 149 ∷ 91 ∷ 193 ∷ []

-- both in a frame
abbrev pub pair_row : List ℕ
pair_row =
    71 ∷ 68 ∷ 79 ∷ 70 ∷ 3 ∷ 0 ∷ 0 ∷ 0 ∷ 7 ∷ 2 ∷ 1 ∷ 0 ∷ 0 ∷ 0 ∷ 2 ∷ 0 ∷ 0 ∷ 0 ∷ 0 ∷ 0 ∷ 2 ∷ pair_check
    ++ 0 ∷ 0 ∷ 0 ∷ 0 ∷ 0 ∷ 0 ∷ 0 ∷ 0 ∷ 0 ∷ 0 ∷ 2 ∷ record_row ++ other_move_row ++ 80 ∷ 111 ∷ 50 ∷ 164 ∷ []

abbrev pub pair_entries : List Entry
pair_entries = Packet pair_row ∷ []

-- the frame that answers it: two events of site 2 are held, and no own one is there
abbrev pub pair_answer : List ℕ
pair_answer =
    71 ∷ 68 ∷ 79 ∷ 70 ∷ 3 ∷ 0 ∷ 0 ∷ 0 ∷ 7 ∷ 1 ∷ 2 ∷ 0 ∷ 2 ∷ 0 ∷ 0 ∷ 0 ∷ 0 ∷ 0 ∷ 0 ∷ 0 ∷ 2 ∷ 0 ∷ 0 ∷ 0 ∷ 0
    ∷ 0 ∷ 0 ∷ 0 ∷ 0 ∷ 0 ∷ 0 ∷ 0 ∷ 0 ∷ 0 ∷ 0 ∷ 0 ∷ 69 ∷ 205 ∷ 28 ∷ 132 ∷ []

-- the steps of both come first, then one record, and then the echoes
abbrev pub pair_effects : List Effect
pair_effects =
    begun
    ++ Work 1 ∷ Work 1
    ∷ Record 11 [] (record_event ∷ ahead_move 2 ∷ [])
    ∷ Print (codes "echo 1.2 applied create rect 0 0 10 10\n") ∷ Print (codes "echo 2.2 applied move 1.2 1 1\n")
    ∷ Try 2 pair_answer
    ∷ Print (codes "polled 1\n")
    ∷ []

abbrev pub pair_journal : List ℕ
pair_journal = header_three_bytes ++ 195 ∷ record_row ++ record_check ++ 195 ∷ other_move_row ++ pair_check ++ 0 ∷ []
