-- Worked rows of going on from a journal: what there is to go on from, and what the node does then.
use Rattle.std.specs.Prelude.{ℕ, pos, List, [], ◌∷◌, ◌++◌, drop, replicate, take, set, codes, Option, Some}
use Rattle.gd_base.specs.declared.fault.LogWhy.TheVariants.{Short, NoSite, Turn, Check, Behind}
use Rattle.gd_effects.specs.Effects.{Effect, Head, Print, Record, Try, Work}
use Rattle.gd_events.specs.Events.{Event}
use Rattle.gd_asked.specs.declared.command.Command.{Command}
use Rattle.gd_asked.specs.declared.command.Command.TheVariants.{Node, Rejoin}
use Rattle.gd_reference.specs.Rejoin.{Found, Events, Faulty, Other}
use Rattle.gd_rows.specs.Worked.{event, header, header_three, header_three_bytes, header_two, prints_of, square}
use Rattle.gd_rows.specs.Worked.{tie_events, tie_log, works_of}
use Rattle.gd_rows.specs.WorkedNodes.{answer_row}

-- ---- what there is to go on from

-- the checks of the rect of site 2 and of the ellipse of site 1
abbrev pub rect_check : List ℕ
rect_check = 79 ∷ 96 ∷ 54 ∷ 83 ∷ []

abbrev pub ellipse_check : List ℕ
ellipse_check = 253 ∷ 241 ∷ 19 ∷ 77 ∷ []

-- the log of the tie in version three: its gates are the bytes 11 and 44, its checks begin at 40 and 73, and its
-- closing gate is byte 77, the last
abbrev pub tie_journal : List ℕ
tie_journal = set (take 40 tie_log ++ rect_check ++ take 29 (drop 40 tie_log) ++ ellipse_check ++ 0 ∷ []) 4 7

-- what a longer log may have left behind that
abbrev pub remains : List ℕ
remains = replicate 33 238 ++ 195 ∷ 1 ∷ 2 ∷ []

abbrev pub worn_journal : List ℕ
worn_journal = tie_journal ++ remains

abbrev pub whole_journals : List (List ℕ × Found)
whole_journals =
    (tie_journal, Events tie_events)
    ∷ (worn_journal, Events tie_events)
    -- without events
    ∷ (header_three_bytes ++ 0 ∷ [], Events [])
    ∷ []

abbrev pub cut_journals : List (List ℕ × Found)
cut_journals =
    -- in the header
    ([], Faulty 0 Short)
    ∷ (take 10 tie_journal, Faulty 10 Short)
    -- in a record, and in front of one
    ∷ (take 32 tie_journal, Faulty 32 Short)
    ∷ (take 45 tie_journal, Faulty 45 Short)
    -- in a check
    ∷ (take 40 tie_journal, Faulty 40 Short)
    ∷ (take 43 tie_journal, Faulty 43 Short)
    -- in the closing gate's place, which lies behind the header, or behind a record
    ∷ (take 11 tie_journal, Faulty 11 Short)
    ∷ (take 44 tie_journal, Faulty 44 Short)
    ∷ (take 77 tie_journal, Faulty 77 Short)
    ∷ []

abbrev pub session_eight : List ℕ
session_eight = set tie_journal 8 8

abbrev pub other_journals : List (List ℕ × Found)
other_journals =
    (session_eight, Other (record header_three { session = 8 }))
    ∷ (set tie_journal 9 2, Other (record header_three { site = 2 }))
    ∷ (set tie_journal 10 3, Other (record header_three { n = 3 }))
    ∷ (tie_log, Other header)
    ∷ (set tie_log 4 2, Other header_two)
    ∷ []

abbrev pub faulty_journals : List (List ℕ × Found)
faulty_journals =
    -- an event of site 3
    (set tie_journal 18 3, Faulty 18 NoSite)
    -- in another session, a number that isn't next, and no closing gate
    ∷ (set session_eight 20 2, Faulty 19 Turn)
    ∷ (take 77 session_eight, Faulty 77 Short)
    -- another x, and another check, of the rect; and another height of the ellipse
    ∷ (set tie_journal 26 4, Faulty 40 Check)
    ∷ (set tie_journal 43 82, Faulty 40 Check)
    ∷ (set tie_journal 71 21, Faulty 73 Check)
    -- gates that are neither open nor closed: both open ones with another bit, and the closing one
    ∷ (set tie_journal 11 194, Faulty 11 Behind)
    ∷ (set tie_journal 44 67, Faulty 44 Behind)
    ∷ (set tie_journal 77 1, Faulty 77 Behind)
    ∷ (set worn_journal 77 255, Faulty 77 Behind)
    ∷ []

-- ---- node 1 of 2

-- one that goes on in that session, and one that begins anew in session 7
abbrev pub rejoins : ℕ → Option Command
rejoins session = Some (Rejoin session 1 (codes "j") (codes "A" ∷ codes "B" ∷ []))

abbrev pub begins : Option Command
begins = Some (Node 7 1 (codes "j") (codes "A" ∷ codes "B" ∷ []))

-- behind one event of site 2
abbrev pub held_effects : List Effect
held_effects =
    works_of (1 ∷ []) ++ prints_of (codes "ready 1 of 2\n" ∷ codes "held 1 kept 0 line 1 clock 1\n" ∷ [])

abbrev pub new_effects : List Effect
new_effects =
    Head header_three_bytes
    ∷ prints_of (codes "ready 1 of 2\n" ∷ codes "held 0 kept 0 line 0 clock 0\n" ∷ [])

-- that event comes in a poll again
abbrev pub again_effects : List Effect
again_effects =
    Work 1 ∷ Print (codes "ready 1 of 2\n") ∷ Try 2 answer_row ∷ Print (codes "polled 3\n") ∷ []

-- Behind seven events, of which the last redid two others. Site 2 made that one, at clock 3, and two events of site 1
-- have greater clocks.
abbrev pub closure_rejoined : List Effect
closure_rejoined =
    works_of (1 ∷ 1 ∷ 1 ∷ 1 ∷ 1 ∷ 1 ∷ 5 ∷ [])
    ++ prints_of (codes "ready 1 of 2\n" ∷ codes "held 7 kept 2 line 3 clock 5\n" ∷ [])

-- ---- an edit behind what was found

abbrev pub edit_input : List ℕ
edit_input = codes "create rect 0 0 10 10\n"

-- its event, the second of site 1, and the record of that
abbrev pub edit_event : Event
edit_event = event 2 1 2 (square (pos 0))

abbrev pub edit_row : List ℕ
edit_row =
    0 ∷ 0 ∷ 0 ∷ 0 ∷ 0 ∷ 2 ∷ 1 ∷ 0 ∷ 2 ∷ 1 ∷ 1
    ∷ 0 ∷ 0 ∷ 0 ∷ 0 ∷ 0 ∷ 0 ∷ 0 ∷ 0 ∷ 0 ∷ 0 ∷ 0 ∷ 10 ∷ 0 ∷ 0 ∷ 0 ∷ 10 ∷ 0 ∷ []

-- the record of the ellipse, the first of site 1
abbrev pub ellipse_row : List ℕ
ellipse_row =
    0 ∷ 0 ∷ 0 ∷ 0 ∷ 0 ∷ 1 ∷ 1 ∷ 0 ∷ 1 ∷ 1 ∷ 2
    ∷ 0 ∷ 0 ∷ 0 ∷ 0 ∷ 0 ∷ 0 ∷ 0 ∷ 0 ∷ 0 ∷ 0 ∷ 0 ∷ 20 ∷ 0 ∷ 0 ∷ 0 ∷ 20 ∷ 0 ∷ []

-- the check of both
abbrev pub edit_check : List ℕ
edit_check = 26 ∷ 253 ∷ 104 ∷ 112 ∷ []

-- the frame for site 2: one event of it is held, and of the two own ones it has acknowledged none
abbrev pub edit_frame : List ℕ
edit_frame =
    71 ∷ 68 ∷ 79 ∷ 70 ∷ 3 ∷ 0 ∷ 0 ∷ 0 ∷ 7 ∷ 1 ∷ 2 ∷ 0 ∷ 1 ∷ 0 ∷ 2 ∷ 0 ∷ 0 ∷ 0 ∷ 0 ∷ 0 ∷ 2 ∷ edit_check
    ++ 0 ∷ 0 ∷ 0 ∷ 0 ∷ 0 ∷ 0 ∷ 0 ∷ 0 ∷ 0 ∷ 0 ∷ 2 ∷ ellipse_row ++ edit_row ++ 149 ∷ 138 ∷ 37 ∷ 182 ∷ []

abbrev pub edit_effects : List Effect
edit_effects =
    works_of (1 ∷ 1 ∷ [])
    ++ Print (codes "ready 1 of 2\n")
    ∷ Work 1 ∷ Record 77 tie_events (edit_event ∷ []) ∷ Print (codes "ok 2.1\n")
    ∷ Try 2 edit_frame
    ∷ []

-- The gate, the record, its check and a closed gate are 34 bytes. They stand over the old gate and 33 bytes behind it.
abbrev pub edited_journal : List ℕ
edited_journal = take 77 tie_journal ++ 195 ∷ edit_row ++ edit_check ++ 0 ∷ 195 ∷ 1 ∷ 2 ∷ []

abbrev pub edited_events : List Event
edited_events = tie_events ++ edit_event ∷ []

-- ---- a note and an edit, and then going on

abbrev pub noting_input : List ℕ
noting_input = codes "name Ann\ncreate rect 0 0 10 10\n"

abbrev pub noting_printed : List ℕ
noting_printed = codes "ready 1 of 2\nnoted 1\nok 1.1\n"

abbrev pub noting_journal : List ℕ
noting_journal =
    header_three_bytes
    ++ 195 ∷ 0 ∷ 0 ∷ 0 ∷ 0 ∷ 0 ∷ 1 ∷ 1 ∷ 0 ∷ 1 ∷ 1 ∷ 1
    ∷ 0 ∷ 0 ∷ 0 ∷ 0 ∷ 0 ∷ 0 ∷ 0 ∷ 0 ∷ 0 ∷ 0 ∷ 0 ∷ 10 ∷ 0 ∷ 0 ∷ 0 ∷ 10 ∷ 0 ∷ 30 ∷ 43 ∷ 197 ∷ 94 ∷ 0 ∷ []

-- two notes of a node that goes on
abbrev pub notes_input : List ℕ
notes_input = codes "name Bob\nfocus 1.1\nwho\n"

abbrev pub notes_printed : List ℕ
notes_printed = codes "ready 1 of 2\nnoted 1\nnoted 2\nwho 1 Bob focus 1.1\nend 1\n"

-- an undo and a redo in front of an edit; behind it two undos and two redos
abbrev pub undos_input : List ℕ
undos_input = codes "undo\nredo\ncreate rect 0 0 10 10\nundo\nundo\nredo\nredo\nshow\n"

abbrev pub undos_printed : List ℕ
undos_printed =
    codes "ready 1 of 2\nrefused: NothingBack\nrefused: NothingBack\nok 2.1\nok 3.1\nend 1\n"
    ++ codes "refused: NothingBack\nok 4.1\nend 1\nrefused: NothingBack\n"
    ++ codes "rect 1.1 in - at 0 0 size 10 10 stroke 000000 fill none width 1\n"
    ++ codes "rect 2.1 in - at 0 0 size 10 10 stroke 000000 fill none width 1\nend 2\n"
