-- Worked rows of frames that are full: how many events fit into one, and what a site sends then.
use Rattle.std.specs.Prelude.{ℕ, zero, suc, ◌+◌, ◌-◌, pos, List, [], ◌∷◌, ◌++◌, map, replicate, codes}
use Rattle.std.specs.List.{concat}
use Rattle.gd_base.specs.declared.content.Content.TheVariants.{ToPlace, ToText}
use Rattle.gd_base.specs.declared.op.Op.TheVariants as op
use Rattle.gd_base.specs.declared.shape.Shape.TheVariants.{Rect}
use Rattle.gd_effects.specs.Effects.{Effect, Print, Record, Try, Work}
use Rattle.gd_events.specs.Events.{Event}
use Rattle.gd_base.specs.Notes.{no_note}
use Rattle.gd_grammar.specs.FrameBytes.{Frame, frame_bytes}
use Rattle.gd_lines.specs.Edits.{Edit}
use Rattle.gd_outside.specs.Seen.{Entry, Packet}
use Rattle.gd_reference.specs.PerSite.{put}
use Rattle.gd_reference.specs.SlowSite.{SlowSite, new_site}
use Rattle.gd_rows.specs.Worked.{at_stamp, event}
use Rattle.gd_rows.specs.WorkedBacks.{tied}
use Rattle.gd_rows.specs.WorkedGestures.{move_row}
use Rattle.gd_rows.specs.WorkedInputs.{letters}
use Rattle.gd_rows.specs.WorkedNodes.{delete_event}
use Rattle.gd_rows.specs.WorkedWorlds.{ahead_move, frame_of, move_to}

-- the check of the nine digits, as catalogues of checks have it
abbrev pub check_value : ℕ
check_value = 0xE3069283

-- ---- how many fit

-- so many moves of site 2, from that number on
abbrev pub moves_from : ℕ → ℕ → List Event
moves_from first zero = []
moves_from first (suc count) = ahead_move first ∷ moves_from (first + 1) count

-- the first event of site 1, a rect with so many letters
abbrev pub lettered : ℕ → Event
lettered count = event 1 1 1 (op.Create Rect (pos 0) (pos 0) (pos 10) (pos 10) (letters count))

-- its event of that number, which gives the rect a label of 200 letters
abbrev pub long_label : ℕ → Event
long_label k = event k 1 k (op.Set (at_stamp 1 1) (ToText (letters 200)))

abbrev pub labels : List Event
labels = map long_label (2 ∷ 3 ∷ 4 ∷ 5 ∷ 6 ∷ [])

-- Events, and how many of them a frame has room for, which is 1,144 bytes. A delete takes 17 bytes, a move 25, the rect
-- 28 and its letters, and such a label 218, so that five of these take 1,090.
abbrev pub fits : List (List Event × ℕ)
fits =
    ([], 0)
    ∷ (replicate 68 delete_event, 67)
    ∷ (moves_from 2 45, 45)
    ∷ (moves_from 2 46, 45)
    ∷ (labels, 5)
    ∷ (labels ++ long_label 7 ∷ [], 5)
    -- to the last byte, and one byte more
    ∷ (labels ++ ahead_move 2 ∷ lettered 1 ∷ [], 7)
    ∷ (labels ++ ahead_move 2 ∷ lettered 2 ∷ [], 6)
    -- what fits isn't brought behind what doesn't
    ∷ (labels ++ long_label 7 ∷ delete_event ∷ [], 5)
    ∷ []

-- ---- a frame of as many moves as fit

abbrev pub moves_frame : Frame
moves_frame = frame_of 46 46 0x2D15320A (moves_from 2 45)

abbrev pub ahead_row : ℕ → List ℕ
ahead_row k =
    0 ∷ 0 ∷ 0 ∷ 0 ∷ 0 ∷ k ∷ 2 ∷ 0 ∷ k ∷ 3 ∷ 0 ∷ 0 ∷ 0 ∷ 0 ∷ 0 ∷ 1 ∷ 2 ∷ 0 ∷ 0 ∷ 0 ∷ (k - 1) ∷ 0 ∷ 0 ∷ 0 ∷ (k - 1) ∷ []

abbrev pub ahead_rows : ℕ → ℕ → List ℕ
ahead_rows first zero = []
ahead_rows first (suc count) = ahead_row first ++ ahead_rows (first + 1) count

abbrev pub moves_row : List ℕ
moves_row =
    71 ∷ 68 ∷ 79 ∷ 70 ∷ 3 ∷ 0 ∷ 0 ∷ 0 ∷ 7 ∷ 2 ∷ 1 ∷ 0 ∷ 0 ∷ 0 ∷ 46 ∷ 0 ∷ 0 ∷ 0 ∷ 0 ∷ 0 ∷ 46 ∷ 10 ∷ 50 ∷ 21 ∷ 45
    ∷ 0 ∷ 0 ∷ 0 ∷ 0 ∷ 0 ∷ 0 ∷ 0 ∷ 0 ∷ 0 ∷ 0 ∷ 45 ∷ ahead_rows 2 45 ++ 162 ∷ 33 ∷ 6 ∷ 181 ∷ []

-- ---- site 1 of 3

-- which has made a rect of 30 bytes and five labels: site 3 has acknowledged all of them, and site 2 none
abbrev pub full_site : SlowSite
full_site = record (new_site 1 3 7) { held = lettered 2 ∷ labels; acked = put (λ site. 0) 3 6 }

-- the frame for a site at the seventh event, with the check of all seven, and so many events
abbrev pub seventh_row : ℕ → List ℕ → ℕ → List ℕ → List ℕ
seventh_row to seven count rows =
    71 ∷ 68 ∷ 79 ∷ 70 ∷ 3 ∷ 0 ∷ 0 ∷ 0 ∷ 7 ∷ 1 ∷ to ∷ 0 ∷ 0 ∷ 0 ∷ 7 ∷ 0 ∷ 0 ∷ 0 ∷ 0 ∷ 0 ∷ 7 ∷ seven
    ++ 0 ∷ 0 ∷ 0 ∷ 0 ∷ 0 ∷ 0 ∷ 0 ∷ 0 ∷ 0 ∷ 0 ∷ count ∷ rows

abbrev pub label_row : ℕ → List ℕ
label_row k = 0 ∷ 0 ∷ 0 ∷ 0 ∷ 0 ∷ k ∷ 1 ∷ 0 ∷ k ∷ 6 ∷ 0 ∷ 0 ∷ 0 ∷ 0 ∷ 0 ∷ 1 ∷ 1 ∷ 200 ∷ letters 200

abbrev pub held_rows : List ℕ
held_rows =
    0 ∷ 0 ∷ 0 ∷ 0 ∷ 0 ∷ 1 ∷ 1 ∷ 0 ∷ 1 ∷ 1 ∷ 1
    ∷ 0 ∷ 0 ∷ 0 ∷ 0 ∷ 0 ∷ 0 ∷ 0 ∷ 0 ∷ 0 ∷ 0 ∷ 0 ∷ 10 ∷ 0 ∷ 0 ∷ 0 ∷ 10 ∷ 2 ∷ 97 ∷ 97 ∷ []
    ++ concat (map label_row (2 ∷ 3 ∷ 4 ∷ 5 ∷ 6 ∷ []))

-- Of the room for site 2 there are 24 bytes left, so that a move doesn't fit: the next poll sends the six events before
-- it. The records of these, and their checks, stand in front of place 1161 of the journal.
abbrev pub moved : Edit
moved = move_to 1 1 5 5

abbrev pub moved_check : List ℕ
moved_check = 93 ∷ 58 ∷ 138 ∷ 52 ∷ []

abbrev pub moved_row : List ℕ
moved_row = seventh_row 3 moved_check 1 (move_row 7 5 5 ++ 69 ∷ 72 ∷ 184 ∷ 48 ∷ [])

abbrev pub moved_effects : List Effect
moved_effects =
    Work 1 ∷ Record 1161 (lettered 2 ∷ labels) (event 7 1 7 (op.Set (at_stamp 1 1) (ToPlace (pos 5) (pos 5))) ∷ [])
    ∷ Print (codes "ok 7.1\n")
    ∷ Try 3 moved_row
    ∷ Try 2 (seventh_row 2 moved_check 6 (held_rows ++ 72 ∷ 33 ∷ 239 ∷ 69 ∷ [])) ∷ Try 3 moved_row
    ∷ Print (codes "polled 0\n")
    ∷ []

-- and a delete does
abbrev pub deleted : Edit
deleted = op.Delete (at_stamp 1 1)

abbrev pub deleted_row : List ℕ
deleted_row = 0 ∷ 0 ∷ 0 ∷ 0 ∷ 0 ∷ 7 ∷ 1 ∷ 0 ∷ 7 ∷ 2 ∷ 0 ∷ 0 ∷ 0 ∷ 0 ∷ 0 ∷ 1 ∷ 1 ∷ []

abbrev pub deleted_check : List ℕ
deleted_check = 59 ∷ 4 ∷ 196 ∷ 179 ∷ []

abbrev pub deleted_effects : List Effect
deleted_effects =
    Work 1 ∷ Record 1161 (lettered 2 ∷ labels) (event 7 1 7 (op.Delete (at_stamp 1 1)) ∷ []) ∷ Print (codes "ok 7.1\n")
    ∷ Try 2 (seventh_row 2 deleted_check 7 (held_rows ++ deleted_row ++ 210 ∷ 56 ∷ 151 ∷ 147 ∷ []))
    ∷ Try 3 (seventh_row 3 deleted_check 1 (deleted_row ++ 56 ∷ 2 ∷ 81 ∷ 238 ∷ []))
    ∷ []

-- ---- the frames of a poll

-- Site 1 of 3, which has made a rect of 30 bytes and six labels, of which five fit into a frame. Site 2 says in a frame
-- that it holds the rect; before that a frame of site 3 comes, of another session.
abbrev pub lagging_site : SlowSite
lagging_site = record (new_site 1 3 7) { held = lettered 2 ∷ labels ++ long_label 7 ∷ [] }

abbrev pub lagging_frame : Frame
lagging_frame = let none = frame_of 0 0 0 [] in record none { head = record none.head { ack = 1 } }

abbrev pub lagging_entries : List Entry
lagging_entries =
    Packet (frame_bytes (record lagging_frame { head = record lagging_frame.head { session = 8; from = 3 } }))
    ∷ Packet (frame_bytes lagging_frame)
    ∷ []

-- the site's frame for another one, with these events
abbrev pub lagging_frame_to : ℕ → List Event → Frame
lagging_frame_to to events =
    record {
      head = record { session = 7; from = 1; to = to; ack = 0; count = 7; clock = 7; check = 0xFD1E8B32 };
      note = no_note;
      events = events;
    }

-- A poll takes the frame of site 2 alone. So it sends that one the five labels that fit, then the last one, and both
-- frames once more. Site 3 is sent one frame, though an event is left.
abbrev pub lagging_effects : List Effect
lagging_effects =
    Print (codes "frame refused: Session\n")
    ∷ Try 2 (frame_bytes (lagging_frame_to 2 labels))
    ∷ Try 2 (frame_bytes (lagging_frame_to 2 (long_label 7 ∷ [])))
    ∷ Try 2 (frame_bytes (lagging_frame_to 2 labels))
    ∷ Try 2 (frame_bytes (lagging_frame_to 2 (long_label 7 ∷ [])))
    ∷ Try 3 (frame_bytes (lagging_frame_to 3 (lettered 2 ∷ labels)))
    ∷ Print (codes "polled 2\n")
    ∷ []

-- so many events of site 1, from that number on, of which no two fit into a frame
abbrev pub wide_from : ℕ → ℕ → List Event
wide_from first zero = []
wide_from first (suc count) =
    event first 1 first (op.Disband (at_stamp 1 1) (replicate 32 (tied 1 1 0 0))) ∷ wide_from (first + 1) count

-- site 1 of 2, which has made so many
abbrev pub wide_site : ℕ → SlowSite
wide_site count = record (new_site 1 2 7) { held = wide_from 1 count }

abbrev pub numbers_of : Frame → List ℕ
numbers_of f = map (λ e. e.number) f.events

-- of 25: those of 24 frames in turn, and of the first eight once more
abbrev pub wide_numbers : List (List ℕ)
wide_numbers =
    map (λ number. number ∷ [])
    (1 ∷ 2 ∷ 3 ∷ 4 ∷ 5 ∷ 6 ∷ 7 ∷ 8 ∷ 9 ∷ 10 ∷ 11 ∷ 12 ∷ 13 ∷ 14 ∷ 15 ∷ 16 ∷ 17 ∷ 18 ∷ 19 ∷ 20 ∷ 21 ∷ 22 ∷ 23 ∷ 24
    ∷ 1 ∷ 2 ∷ 3 ∷ 4 ∷ 5 ∷ 6 ∷ 7 ∷ 8 ∷ [])
