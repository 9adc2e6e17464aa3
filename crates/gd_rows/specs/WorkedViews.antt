-- Worked rows of viewers: a snapshot and frames behind it, and what is printed of them.
use Rattle.std.specs.Prelude.{ℕ, List, [], ◌∷◌, ◌++◌, set, take, codes}
use Rattle.gd_effects.specs.Effects.{Effect, Print, Work}
use Rattle.gd_grammar.specs.FrameBytes.{with_checksum}
use Rattle.gd_outside.specs.declared.status.Status.{Status}
use Rattle.gd_outside.specs.declared.status.Status.TheVariants.{Done, BadView}
use Rattle.gd_rows.specs.WorkedSnapshots.{tie_snapshot_bytes}

-- ---- a frame behind the snapshot of two objects

-- from site 2 to site 1: its second event, at clock 2, moves the ellipse to 7 8, with the check of both; without its
-- checksum, and with it
abbrev pub moving_body : List ℕ
moving_body =
    71 ∷ 68 ∷ 79 ∷ 70 ∷ 3 ∷ 0 ∷ 0 ∷ 0 ∷ 7 ∷ 2 ∷ 1 ∷ 0 ∷ 1 ∷ 0 ∷ 2 ∷ 0 ∷ 0 ∷ 0 ∷ 0 ∷ 0 ∷ 2 ∷ 0 ∷ 233 ∷ 251 ∷ 53
    ∷ 0 ∷ 0 ∷ 0 ∷ 0 ∷ 0 ∷ 0 ∷ 0 ∷ 0 ∷ 0 ∷ 0 ∷ 1
    ∷ 0 ∷ 0 ∷ 0 ∷ 0 ∷ 0 ∷ 2 ∷ 2 ∷ 0 ∷ 2 ∷ 3 ∷ 0 ∷ 0 ∷ 0 ∷ 0 ∷ 0 ∷ 1 ∷ 1 ∷ 0 ∷ 0 ∷ 0 ∷ 7 ∷ 0 ∷ 0 ∷ 0 ∷ 8 ∷ []

abbrev pub moving_frame : List ℕ
moving_frame = moving_body ++ 5 ∷ 114 ∷ 115 ∷ 152 ∷ []

-- as an item, and with a byte changed and the checksum of what came of it
abbrev pub item : List ℕ → List ℕ
item bytes = 0 ∷ 65 ∷ bytes

abbrev pub changed_item : List ℕ → List ℕ
changed_item body = item (with_checksum body)

abbrev pub changed : ℕ → ℕ → List ℕ
changed at value = changed_item (set moving_body at value)

abbrev pub moved_effects : List Effect
moved_effects = Work 1 ∷ Print (codes "echo 2.2 applied move 1.1 7 8\n") ∷ []

-- ---- runs

-- What is behind the snapshot, what is done for its frames, and how it ends: with the drawing, or with this line.
pub record View : Type 0 where
  pub behind : List ℕ
  pub done : List Effect
  pub end : Status

abbrev pub view : List ℕ → List Effect → Status → View
view behind done end = record { behind = behind; done = done; end = end }

-- a line of a frame that isn't taken
abbrev pub not_taken : List ℕ → List Effect
not_taken line = Print line ∷ []

abbrev pub drawn_views : List View
drawn_views =
    view [] [] Done
    ∷ view (item moving_frame) moved_effects Done
    -- twice, and to another site
    ∷ view (item moving_frame ++ item moving_frame) moved_effects Done
    ∷ view (changed 10 9) moved_effects Done
    -- of another session, and of no site of it
    ∷ view (changed 8 8) (not_taken (codes "frame refused: Session\n")) Done
    ∷ view (changed_item (set (set moving_body 9 3) 42 3)) (not_taken (codes "frame refused: NoSuchSite\n")) Done
    -- an event behind a gap, one again, and one whose clock isn't above the sure clock
    ∷ view (changed_item (set (set moving_body 14 3) 44 3)) [] Done
    ∷ view (changed 44 1) [] Done
    ∷ view (changed 41 1) (not_taken (codes "event 1.2 refused: Backdated 1 1\n")) Done
    -- no frame, an event that names a later one, one bit that is another, and a frame of no bytes
    ∷ view (changed 0 0) (not_taken (codes "frame refused: Magic at 0\n")) Done
    ∷ view (changed 48 2) (not_taken (codes "frame refused: FutureId at 46\n")) Done
    ∷ view (item (set moving_frame 56 6)) (not_taken (codes "frame refused: Check at 61\n")) Done
    ∷ view (0 ∷ 0 ∷ []) (not_taken (codes "frame refused: Short at 0\n")) Done
    ∷ []

-- the same with the line of the fault
abbrev pub bad : List ℕ → List Effect → List ℕ → View
bad behind done line = view behind (done ++ Print line ∷ []) BadView

abbrev pub bad_views : List View
bad_views =
    -- an item that isn't whole
    bad (0 ∷ []) [] (codes "bad view at 146: Short\n")
    ∷ bad (take 66 (item moving_frame)) [] (codes "bad view at 211: Short\n")
    -- one that is longer than any frame, and one that might be
    ∷ bad (4 ∷ 177 ∷ []) [] (codes "bad view at 145: Long\n")
    ∷ bad (4 ∷ 176 ∷ []) [] (codes "bad view at 147: Short\n")
    -- behind a frame that is taken
    ∷ bad (item moving_frame ++ 255 ∷ 255 ∷ []) moved_effects (codes "bad view at 212: Long\n")
    ∷ []

-- bytes that are no snapshot
abbrev pub cut_view : List ℕ
cut_view = take 144 tie_snapshot_bytes

abbrev pub cut_line : List (List ℕ)
cut_line = codes "bad view at 144: Short\n" ∷ []

-- ---- a snapshot with kept events

-- From site 2: its third event, at clock 5, moves the text to 9 9, which the kept move behind it covers. A viewer
-- doesn't know the events in the snapshot, and takes whatever check the frame has.
abbrev pub late_frame : List ℕ
late_frame =
    71 ∷ 68 ∷ 79 ∷ 70 ∷ 3 ∷ 0 ∷ 0 ∷ 0 ∷ 7 ∷ 2 ∷ 1 ∷ 0 ∷ 0 ∷ 0 ∷ 3 ∷ 0 ∷ 0 ∷ 0 ∷ 0 ∷ 0 ∷ 5 ∷ 1 ∷ 2 ∷ 3 ∷ 4
    ∷ 0 ∷ 0 ∷ 0 ∷ 0 ∷ 0 ∷ 0 ∷ 0 ∷ 0 ∷ 0 ∷ 0 ∷ 1
    ∷ 0 ∷ 0 ∷ 0 ∷ 0 ∷ 0 ∷ 5 ∷ 2 ∷ 0 ∷ 3 ∷ 3 ∷ 0 ∷ 0 ∷ 0 ∷ 0 ∷ 0 ∷ 1 ∷ 1 ∷ 0 ∷ 0 ∷ 0 ∷ 9 ∷ 0 ∷ 0 ∷ 0 ∷ 9
    ∷ 135 ∷ 212 ∷ 36 ∷ 215 ∷ []

-- a step for each kept event, and none for the late one
abbrev pub late_effects : List Effect
late_effects = Work 1 ∷ Work 1 ∷ Work 0 ∷ Print (codes "echo 5.2 dropped by 6.1 move 1.1 9 9\n") ∷ []

-- ---- a read that fails behind these bytes

abbrev pub failed_view : List ℕ
failed_view = tie_snapshot_bytes ++ item moving_frame ++ 0 ∷ 65 ∷ 71 ∷ []
