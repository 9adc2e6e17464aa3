-- Worked rows of nodes: what is typed and received, and what the node does.
use Rattle.std.specs.Prelude.{ℕ, pos, true, List, [], ◌∷◌, ◌++◌, map, replicate, set, codes, Some, Ok, Err}
use Rattle.std.specs.List.{concat}
use Rattle.gd_base.specs.declared.content.Content.TheVariants.{ToFlag}
use Rattle.gd_base.specs.declared.op.Op.TheVariants as op
use Rattle.gd_base.specs.declared.refusal.LineFault.TheVariants.{UnknownCommand}
use Rattle.gd_base.specs.declared.shape.Shape.TheVariants.{Rect}
use Rattle.gd_effects.specs.Effects.{Effect, Head, Print, Record, Try, Work}
use Rattle.gd_events.specs.Events.{Event}
use Rattle.gd_grammar.specs.FrameBytes.{frame_bytes, with_checksum}
use Rattle.gd_lines.specs.declared.command.Command.{Command}
use Rattle.gd_lines.specs.declared.command.Command.TheVariants as command
use Rattle.gd_lines.specs.declared.command.Turn.TheVariants.{Undo, Redo}
use Rattle.gd_model.specs.Objects.{new_shape}
use Rattle.gd_outside.specs.Seen.{Entry, Packet, Pause, Failure}
use Rattle.gd_reference.specs.InputLines.{Read}
use Rattle.gd_reference.specs.NodeRun.{HeardLine, node_effects}
use Rattle.gd_rows.specs.Worked.{at_stamp, body_row, event, frame_row, frame_row_to_third, header_three_bytes}
use Rattle.gd_rows.specs.Worked.{record_check, record_event, record_row}
use Rattle.gd_rows.specs.WorkedWorlds.{new_rect, ahead_move, ahead_first, ahead_gap, ahead_rest, check_one, check_two}
use Rattle.gd_rows.specs.WorkedWorlds.{frame_of, sure_frame, sure_late_frame}

-- lines that ask for these
abbrev pub asked : List Command → List HeardLine
asked commands = map (λ c. Read (Ok c)) commands

-- ---- site 2 of 3

abbrev pub second_header : List ℕ
second_header = 71 ∷ 68 ∷ 79 ∷ 76 ∷ 7 ∷ 0 ∷ 0 ∷ 0 ∷ 7 ∷ 2 ∷ 3 ∷ []

-- its header, and an edit: a step, the record behind the header's 11 bytes, the line, and a frame for each other site
abbrev pub created_effects : List Effect
created_effects =
    Head second_header
    ∷ Print (codes "ready 2 of 3\n")
    ∷ Work 1 ∷ Record 11 [] (record_event ∷ []) ∷ Print (codes "ok 1.2\n")
    ∷ Try 1 frame_row ∷ Try 3 frame_row_to_third
    ∷ []

-- a record that deletes the rect
abbrev pub delete_row : List ℕ
delete_row = 0 ∷ 0 ∷ 0 ∷ 0 ∷ 0 ∷ 2 ∷ 2 ∷ 0 ∷ 2 ∷ 2 ∷ 0 ∷ 0 ∷ 0 ∷ 0 ∷ 0 ∷ 1 ∷ 2 ∷ []

abbrev pub delete_event : Event
delete_event = event 2 2 2 (op.Delete (at_stamp 1 2))

-- the check of both events
abbrev pub delete_check : List ℕ
delete_check = 168 ∷ 0 ∷ 173 ∷ 28 ∷ []

-- the frame with both events, which ends in that checksum
abbrev pub undone_row_to : ℕ → List ℕ → List ℕ
undone_row_to to checksum =
    71 ∷ 68 ∷ 79 ∷ 70 ∷ 3 ∷ 0 ∷ 0 ∷ 0 ∷ 7 ∷ 2 ∷ to ∷ 0 ∷ 0 ∷ 0 ∷ 2 ∷ 0 ∷ 0 ∷ 0 ∷ 0 ∷ 0 ∷ 2 ∷ delete_check
    ++ 0 ∷ 0 ∷ 0 ∷ 0 ∷ 0 ∷ 0 ∷ 0 ∷ 0 ∷ 0 ∷ 0 ∷ 2 ∷ record_row ++ delete_row ++ checksum

-- a record that puts the rect back as it was: black, not filled, of width 1, solid, without heads, opaque, without a
-- label, without ends, in no group, not dissolved, at the rank high 1.2; and no ties
abbrev pub restore_row : List ℕ
restore_row =
    0 ∷ 0 ∷ 0 ∷ 0 ∷ 0 ∷ 3 ∷ 2 ∷ 0 ∷ 3 ∷ 11 ∷ 0 ∷ 0 ∷ 0 ∷ 0 ∷ 0 ∷ 1 ∷ 2 ∷ 1 ∷ 0 ∷ 0 ∷ 0 ∷ 0 ∷ 0 ∷ 0 ∷ 0 ∷ 0
    ∷ 0 ∷ 0 ∷ 0 ∷ 10 ∷ 0 ∷ 0 ∷ 0 ∷ 10 ∷ 0 ∷ 0 ∷ 0 ∷ 0 ∷ 255 ∷ 255 ∷ 255 ∷ 255 ∷ 1 ∷ 0 ∷ 0 ∷ 255 ∷ 255 ∷ 255 ∷ 255 ∷ 100
    ∷ 0 ∷ 0
    ∷ 0 ∷ 0 ∷ 0 ∷ 0 ∷ 0 ∷ 1 ∷ 0 ∷ 0 ∷ 0 ∷ 0 ∷ 0 ∷ 1 ∷ 2 ∷ 0 ∷ []

abbrev pub restore_event : Event
restore_event =
    event 3 2 3 (op.Restore (at_stamp 1 2) (new_shape (at_stamp 1 2) Rect (pos 0) (pos 0) (pos 10) (pos 10) []) [])

-- the check of all three
abbrev pub restore_check : List ℕ
restore_check = 255 ∷ 202 ∷ 208 ∷ 111 ∷ []

-- the frame with all three
abbrev pub redone_row_to : ℕ → List ℕ → List ℕ
redone_row_to to checksum =
    71 ∷ 68 ∷ 79 ∷ 70 ∷ 3 ∷ 0 ∷ 0 ∷ 0 ∷ 7 ∷ 2 ∷ to ∷ 0 ∷ 0 ∷ 0 ∷ 3 ∷ 0 ∷ 0 ∷ 0 ∷ 0 ∷ 0 ∷ 3 ∷ restore_check
    ++ 0 ∷ 0 ∷ 0 ∷ 0 ∷ 0 ∷ 0 ∷ 0 ∷ 0 ∷ 0 ∷ 0 ∷ 3 ∷ record_row ++ delete_row ++ restore_row ++ checksum

-- The edit, two undos and two redos. The first undo is an event like any other, behind the 33 bytes of the edit's
-- gate, record and check, and so is the first redo, behind the 22 bytes of the undo's. The second ones are refused.
abbrev pub turned_lines : List HeardLine
turned_lines =
    asked
    (command.Edit (new_rect (pos 0))
    ∷ command.Turn Undo
    ∷ command.Turn Undo
    ∷ command.Turn Redo
    ∷ command.Turn Redo
    ∷ [])

abbrev pub turned_effects : List Effect
turned_effects =
    created_effects
    ++ Work 1 ∷ Record 44 (record_event ∷ []) (delete_event ∷ []) ∷ Print (codes "ok 2.2\n") ∷ Print (codes "end 1\n")
    ∷ Try 1 (undone_row_to 1 (70 ∷ 174 ∷ 194 ∷ 88 ∷ [])) ∷ Try 3 (undone_row_to 3 (212 ∷ 98 ∷ 43 ∷ 108 ∷ []))
    ∷ Print (codes "refused: NothingBack\n")
    ∷ Work 1 ∷ Record 66 (record_event ∷ delete_event ∷ []) (restore_event ∷ [])
    ∷ Print (codes "ok 3.2\n") ∷ Print (codes "end 1\n")
    ∷ Try 1 (redone_row_to 1 (195 ∷ 80 ∷ 22 ∷ 153 ∷ [])) ∷ Try 3 (redone_row_to 3 (64 ∷ 178 ∷ 114 ∷ 26 ∷ []))
    ∷ Print (codes "refused: NothingBack\n")
    ∷ []

-- the header, the three events with their checks, and a closed gate
abbrev pub turned_journal : List ℕ
turned_journal =
    second_header
    ++ 195 ∷ record_row ++ record_check
    ++ 195 ∷ delete_row ++ delete_check
    ++ 195 ∷ restore_row ++ restore_check
    ++ 0 ∷ []

-- ---- a site alone

abbrev pub alone : List Entry → List HeardLine → List Effect
alone entries lines = node_effects 1 1 7 entries lines

-- 257 datagrams of no byte, a pause, and one more
abbrev pub full_entries : List Entry
full_entries = replicate 257 (Packet []) ++ Pause ∷ Packet [] ∷ []

abbrev pub short_frames : ℕ → List ℕ
short_frames n = concat (replicate n (codes "frame refused: Short at 0\n"))

abbrev pub full_printed : List ℕ
full_printed =
    codes "ready 1 of 1\n"
    ++ short_frames 256
    ++ codes "polled 256\n"
    ++ short_frames 1
    ++ codes "polled 1\n"
    ++ short_frames 1
    ++ codes "polled 1\npolled 0\n"

-- the longest datagram that is read, and one of a byte more
abbrev pub long_entries : List Entry
long_entries = Packet (replicate 8192 0) ∷ Packet (replicate 8193 0) ∷ []

abbrev pub long_printed : List ℕ
long_printed = codes "ready 1 of 1\nframe refused: Magic at 0\nframe refused: TooLong\npolled 2\n"

-- ---- the link of site 1 of 2

-- one frame three times
abbrev pub repeat_entries : List Entry
repeat_entries = Packet frame_row ∷ Packet frame_row ∷ Packet frame_row ∷ []

-- the frame that answers it: one event of site 2 is held, and no own one is there
abbrev pub answer_row : List ℕ
answer_row =
    71 ∷ 68 ∷ 79 ∷ 70 ∷ 3 ∷ 0 ∷ 0 ∷ 0 ∷ 7 ∷ 1 ∷ 2 ∷ 0 ∷ 1 ∷ 0 ∷ 0 ∷ 0 ∷ 0 ∷ 0 ∷ 0 ∷ 0 ∷ 1 ∷ 0 ∷ 0 ∷ 0 ∷ 0
    ∷ 0 ∷ 0 ∷ 0 ∷ 0 ∷ 0 ∷ 0 ∷ 0 ∷ 0 ∷ 0 ∷ 0 ∷ 0 ∷ 213 ∷ 156 ∷ 216 ∷ 92 ∷ []

abbrev pub repeat_effects : List Effect
repeat_effects =
    Head header_three_bytes
    ∷ Print (codes "ready 1 of 2\n")
    ∷ Work 1
    ∷ Record 11 [] (record_event ∷ [])
    ∷ Print (codes "echo 1.2 applied create rect 0 0 10 10\n")
    ∷ Try 2 answer_row
    ∷ Print (codes "polled 3\n")
    ∷ []

-- the header, the event with its check, and a closed gate
abbrev pub repeat_journal : List ℕ
repeat_journal = header_three_bytes ++ 195 ∷ record_row ++ record_check ++ 0 ∷ []

abbrev pub ahead_entries : List Entry
ahead_entries = Packet (frame_bytes ahead_first) ∷ Packet (frame_bytes ahead_gap) ∷ Packet (frame_bytes ahead_rest) ∷ []

abbrev pub sure_entries : List Entry
sure_entries = Packet (frame_bytes sure_frame) ∷ Packet (frame_bytes sure_late_frame) ∷ []

-- the first event, its count and clock again, a failure, and the second event
abbrev pub failing_entries : List Entry
failing_entries =
    Packet (frame_bytes ahead_first)
    ∷ Packet (frame_bytes (frame_of 1 1 check_one []))
    ∷ Failure
    ∷ Packet (frame_bytes (frame_of 2 2 check_two (ahead_move 2 ∷ [])))
    ∷ []

-- a new node 1 of 2 in session 7
abbrev pub listening : List Entry → List HeardLine → List Effect
listening entries lines = node_effects 1 2 7 entries lines

abbrev pub ahead_printed : List ℕ
ahead_printed =
    codes "ready 1 of 2\necho 1.2 applied create rect 0 0 10 10\necho 2.2 applied move 1.2 1 1\necho 3.2 applied move 1.2 2 2\n"
    ++ codes "echo 4.2 applied move 1.2 3 3\npolled 3\nheld 4 kept 0 line 4 clock 4\n"

abbrev pub sure_printed : List ℕ
sure_printed =
    codes "ready 1 of 2\necho 1.2 applied create rect 0 0 10 10\necho 2.2 applied move 1.2 1 1\n"
    ++ codes "event 9.2 refused: Backdated 9 9\npolled 2\nheld 2 kept 0 line 2 clock 2\n"

abbrev pub failing_printed : List ℕ
failing_printed =
    codes "ready 1 of 2\necho 1.2 applied create rect 0 0 10 10\nlink fault after 2\necho 2.2 applied move 1.2 1 1\npolled 1\n"

-- what isn't taken: no byte, another session, one byte too many, and one bit that is another
abbrev pub refused_entries : List Entry
refused_entries =
    Packet []
    ∷ Packet (frame_bytes (record ahead_first { head = record ahead_first.head { session = 8 } }))
    ∷ Packet (with_checksum (body_row ++ 0 ∷ []))
    ∷ Packet (set frame_row 58 11)
    ∷ []

abbrev pub refused_printed : List ℕ
refused_printed =
    codes "ready 1 of 2\nframe refused: Short at 0\nframe refused: Session\nframe refused: Trailing at 64\n"
    ++ codes "frame refused: Check at 64\npolled 4\nend 0\n"

abbrev pub noting_lines : List HeardLine
noting_lines =
    Read (Ok (command.Name (codes "Ada")))
    ∷ Read (Ok (command.Focus (Some (at_stamp 1 1))))
    ∷ Read (Ok command.Who)
    ∷ Read (Err UnknownCommand)
    ∷ Read (Ok command.Blank)
    ∷ Read (Ok (command.Edit (new_rect (pos 0))))
    ∷ Read (Ok (command.Edit (op.Set (at_stamp 1 1) (ToFlag true))))
    ∷ Read (Ok command.Quit)
    ∷ Read (Ok command.Show)
    ∷ []

abbrev pub noting_printed : List ℕ
noting_printed =
    codes "ready 1 of 2\nnoted 1\nnoted 2\nwho 1 Ada focus 1.1\nend 1\nrefused: UnknownCommand\nok 1.1\nrefused: NotGroup\n"
