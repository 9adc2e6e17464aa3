-- Worked rows of checks: journals with a check behind each event, what is found of a change in them, what is replayed
-- up to it, and sites that part.
use Rattle.std.specs.Prelude.{ℕ, pos, false, true, List, [], ◌∷◌, ◌++◌, set, take, codes, Option, Some}
use Rattle.gd_asked.specs.declared.command.Command.{Command}
use Rattle.gd_asked.specs.declared.command.Command.TheVariants.{Replay}
use Rattle.gd_base.specs.declared.content.Content.TheVariants.{ToPlace}
use Rattle.gd_base.specs.declared.fault.LogWhy.TheVariants.{Short, Check, Behind}
use Rattle.gd_base.specs.declared.op.Op.TheVariants as op
use Rattle.gd_base.specs.declared.verdict.Verdict.{Verdict}
use Rattle.gd_base.specs.declared.verdict.Verdict.TheVariants as verdict
use Rattle.gd_base.specs.declared.refusal.FrameFault.TheVariants as fault
use Rattle.gd_effects.specs.Effects.{Effect}
use Rattle.gd_events.specs.Events.{Event}
use Rattle.gd_grammar.specs.FrameBytes.{Frame, frame_bytes}
use Rattle.gd_grammar.specs.LogBytes.{LogMisread}
use Rattle.gd_options.specs.declared.format.Format.TheVariants.{Text}
use Rattle.gd_outside.specs.Seen.{Entry, Packet}
use Rattle.gd_reference.specs.Offers.{take_frame}
use Rattle.gd_reference.specs.SlowSite.{SlowSite}
use Rattle.gd_rows.specs.Worked.{at_stamp, event, fault_at, header_three_bytes, prints_of, record_check, record_event}
use Rattle.gd_rows.specs.Worked.{record_row, tie_log, works_of}
use Rattle.gd_rows.specs.WorkedGestures.{create_row, other_move_row, own_checks, pair_check}
use Rattle.gd_rows.specs.WorkedRejoins.{tie_journal}
use Rattle.gd_rows.specs.WorkedWorlds.{ahead_create, ahead_move, check_two, first_rect, frame_of, listener, named}

-- ---- a journal with the events of two sites

-- Two events of site 2 with one of site 1 between them. The gates are the bytes 11, 44, 77 and 107, and the checks
-- begin at 40, 73 and 103. The last check is that of both events of site 2.
abbrev pub crossed_journal : List ℕ
crossed_journal =
    header_three_bytes
    ++ 195 ∷ record_row ++ record_check
    ++ 195 ∷ create_row ++ own_checks 1
    ++ 195 ∷ other_move_row ++ pair_check
    ++ 0 ∷ []

abbrev pub crossed_events : List Event
crossed_events = record_event ∷ first_rect ∷ ahead_move 2 ∷ []

-- the event of site 1 comes first, and each check stays as it is
abbrev pub turned_round_journal : List ℕ
turned_round_journal =
    header_three_bytes
    ++ 195 ∷ create_row ++ own_checks 1
    ++ 195 ∷ record_row ++ record_check
    ++ 195 ∷ other_move_row ++ pair_check
    ++ 0 ∷ []

abbrev pub turned_round_events : List Event
turned_round_events = first_rect ∷ record_event ∷ ahead_move 2 ∷ []

-- the check of the move alone, as if it were the first event of its site
abbrev pub alone_check : List ℕ
alone_check = 227 ∷ 42 ∷ 32 ∷ 68 ∷ []

-- It has 108 bytes.
abbrev pub crossed_faults : List (List ℕ × LogMisread)
crossed_faults =
    -- a bit of a check, and of the number that the move sets
    (set crossed_journal 40 195, fault_at Check 68)
    ∷ (set crossed_journal 98 3, fault_at Check 5)
    -- the first event of site 2 with another width, whose own check is found first
    ∷ (set crossed_journal 34 11, fault_at Check 68)
    -- the check of what stands before, and of the event alone
    ∷ (take 103 crossed_journal ++ record_check ++ 0 ∷ [], fault_at Check 5)
    ∷ (take 103 crossed_journal ++ own_checks 1 ++ 0 ∷ [], fault_at Check 5)
    ∷ (take 103 crossed_journal ++ alone_check ++ 0 ∷ [], fault_at Check 5)
    -- a check that isn't whole
    ∷ (take 106 crossed_journal, fault_at Short 0)
    -- gates with one bit changed, and a closing one
    ∷ (set crossed_journal 11 67, fault_at Behind 97)
    ∷ (set crossed_journal 77 193, fault_at Behind 31)
    ∷ (set crossed_journal 107 128, fault_at Behind 1)
    -- a log without checks whose version was changed
    ∷ (set tie_log 4 7, fault_at Check 30)
    ∷ []

-- in version two the first byte of the first check stands in a gate's place, and ends the log
abbrev pub crossed_in_two : List ℕ
crossed_in_two = set crossed_journal 4 2

-- ---- up to a fault

abbrev pub replay_upto : Option Command
replay_upto = Some (Replay Text false true)

-- the last event with another height, and its gate with another bit
abbrev pub changed_journal : List ℕ
changed_journal = set tie_journal 71 21

abbrev pub flipped_journal : List ℕ
flipped_journal = set tie_journal 44 67

-- what stands before either, and then the line
abbrev pub upto : List ℕ → List Effect
upto line =
    works_of (1 ∷ [])
    ++ prints_of
    (codes "rect 1.2 in - at 5 5 size 10 10 stroke 000000 fill none width 1\n" ∷ codes "end 1\n" ∷ line ∷ [])

-- ---- two sites that part

-- what a site is told by one that was put back behind its second event, and then made another third one
abbrev pub other_third : Event
other_third = event 3 2 3 (op.Set (at_stamp 1 2) (ToPlace (pos 7) (pos 7)))

abbrev pub other_check : ℕ
other_check = 0xE683F54F

abbrev pub parting_frame : Frame
parting_frame = frame_of 3 3 other_check (other_third ∷ [])

abbrev pub parting_row : List ℕ
parting_row =
    71 ∷ 68 ∷ 79 ∷ 70 ∷ 3 ∷ 0 ∷ 0 ∷ 0 ∷ 7 ∷ 2 ∷ 1 ∷ 0 ∷ 0 ∷ 0 ∷ 3 ∷ 0 ∷ 0 ∷ 0 ∷ 0 ∷ 0 ∷ 3 ∷ 79 ∷ 245 ∷ 131 ∷ 230
    ∷ 0 ∷ 0 ∷ 0 ∷ 0 ∷ 0 ∷ 0 ∷ 0 ∷ 0 ∷ 0 ∷ 0 ∷ 1
    ∷ 0 ∷ 0 ∷ 0 ∷ 0 ∷ 0 ∷ 3 ∷ 2 ∷ 0 ∷ 3 ∷ 3 ∷ 0 ∷ 0 ∷ 0 ∷ 0 ∷ 0 ∷ 1 ∷ 2 ∷ 0 ∷ 0 ∷ 0 ∷ 7 ∷ 0 ∷ 0 ∷ 0 ∷ 7
    ∷ 50 ∷ 142 ∷ 90 ∷ 107 ∷ []

-- the three events of site 2, with a note
abbrev pub three_frame : Frame
three_frame =
    record (frame_of 3 3 0x0B26304F (ahead_create ∷ ahead_move 2 ∷ ahead_move 3 ∷ [])) { note = named 1 (codes "Ann") }

abbrev pub three_held : SlowSite
three_held = take_frame listener three_frame

abbrev pub parted_site : SlowSite
parted_site = take_frame three_held parting_frame

-- the event behind the other third one, in a frame with it and alone
abbrev pub other_fourth : Event
other_fourth = event 4 2 4 (op.Set (at_stamp 1 2) (ToPlace (pos 3) (pos 3)))

abbrev pub fourth_frame : List Event → Frame
fourth_frame events = frame_of 4 4 0x5DCC48D3 events

-- what becomes of frames at the site that holds three events
abbrev pub verdicts : List (Frame × Verdict)
verdicts =
    (three_frame, verdict.Taken)
    ∷ (parting_frame, verdict.Parted 3)
    -- the same without the event, and with the next one, which would arrive
    ∷ (frame_of 3 3 other_check [], verdict.Parted 3)
    ∷ (fourth_frame (other_third ∷ other_fourth ∷ []), verdict.Parted 4)
    -- another count than that of what is held then, which tells nothing
    ∷ (fourth_frame [], verdict.Taken)
    ∷ (frame_of 2 2 other_check [], verdict.Taken)
    -- one that is refused shows nothing
    ∷ (record parting_frame { head = record parting_frame.head { ack = 1 } }, verdict.Refused (fault.OverAck 1 0))
    ∷ []

-- and once it has parted at three
abbrev pub later_verdicts : List (Frame × Verdict)
later_verdicts =
    (parting_frame, verdict.Passed)
    ∷ (three_frame, verdict.Passed)
    ∷ (fourth_frame [], verdict.Passed)
    ∷ (fourth_frame (other_fourth ∷ []), verdict.Parted 4)
    ∷ (frame_of 2 2 check_two [], verdict.Passed)
    ∷ []

-- the three events, the frame that shows the parting twice, and the three events again
abbrev pub parting_entries : List Entry
parting_entries =
    Packet (frame_bytes three_frame) ∷ Packet parting_row ∷ Packet parting_row ∷ Packet (frame_bytes three_frame) ∷ []

abbrev pub parting_printed : List ℕ
parting_printed =
    codes "ready 1 of 2\necho 1.2 applied create rect 0 0 10 10\necho 2.2 applied move 1.2 1 1\n"
    ++ codes "echo 3.2 applied move 1.2 2 2\n"
    ++ codes "parted from 2 at 3\npolled 4\nheld 3 kept 0 line 3 clock 3 parted 1\n"
    ++ codes "who 2 Ann focus -\nparted from 2 at 3\nend 2\n"
    ++ codes "rect 1.2 in - at 2 2 size 10 10 stroke 000000 fill none width 1\nend 1\n"
