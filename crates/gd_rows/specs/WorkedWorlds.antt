-- Worked rows of sites and worlds: lists of steps, the frames of a site that runs ahead, and what becomes of them.
use Rattle.std.specs.Prelude.{ℕ, ◌-◌, ℤ, pos, List, [], ◌∷◌, ◌++◌, take, codes, Option, Some, None}
use Rattle.gd_base.specs.declared.content.Content.TheVariants.{ToPlace, ToRank}
use Rattle.gd_base.specs.declared.content.Height.TheVariants.{To}
use Rattle.gd_base.specs.declared.content.Side.TheVariants.{Bottom, Top}
use Rattle.gd_base.specs.declared.note.Note.{Note}
use Rattle.gd_base.specs.declared.op.Op.TheVariants as op
use Rattle.gd_base.specs.declared.refusal.FrameFault.{FrameFault}
use Rattle.gd_base.specs.declared.refusal.FrameFault.TheVariants as fault
use Rattle.gd_base.specs.declared.shape.Shape.TheVariants.{Rect, Ellipse}
use Rattle.gd_base.specs.declared.site_status.SiteStatus.{SiteStatus}
use Rattle.gd_events.specs.Events.{Event}
use Rattle.gd_effects.specs.Effects.{Effect, Print, Record, Work}
use Rattle.gd_grammar.specs.FrameBytes.{Frame}
use Rattle.gd_grammar.specs.declared.frame.Head.{Head}
use Rattle.gd_lines.specs.Edits.{Edit}
use Rattle.gd_reference.specs.Offers.{take_frame}
use Rattle.gd_base.specs.Notes.{no_note}
use Rattle.gd_reference.specs.SlowSite.{SlowSite, new_site}
use Rattle.gd_reference.specs.World.{World, Step, Edits, Names, Focuses, At, Send, Deliver, Restart, Editing, Taking}
use Rattle.gd_reference.specs.World.{after}
use Rattle.gd_rows.specs.Worked.{at_stamp, event, member}

abbrev pub site_status : ℕ → ℕ → ℕ → ℕ → SiteStatus
site_status held kept line clock = record { held = held; kept = kept; line = line; clock = clock; parted = 0 }

-- a rect of size 10 10
abbrev pub new_rect : ℤ → Edit
new_rect x = op.Create Rect x (pos 0) (pos 10) (pos 10) []

abbrev pub move_to : ℕ → ℕ → ℕ → ℕ → Edit
move_to clock site x y = op.Set (at_stamp clock site) (ToPlace (pos x) (pos y))

-- the first event of site 1, where that is the rect at 0
abbrev pub first_rect : Event
first_rect = event 1 1 1 (op.Create Rect (pos 0) (pos 0) (pos 10) (pos 10) [])

-- ---- a move that comes late is covered by a later one

-- all but the delivery of the late move
abbrev pub cover_begins : List Step
cover_begins =
    At 1 (Edits (new_rect (pos 0)))
    ∷ Send 1 2
    ∷ Deliver 0
    ∷ At 1 (Edits (move_to 1 1 50 50))
    ∷ At 1 (Edits (move_to 1 1 60 60))
    ∷ At 2 (Edits (move_to 1 1 90 90))
    ∷ Send 2 1
    ∷ []

abbrev pub cover_steps : List Step
cover_steps = cover_begins ++ Deliver 1 ∷ []

-- site 1 before the late move comes
abbrev pub cover_site : SlowSite
cover_site = (after 2 7 cover_begins).at 1

abbrev pub cover_world : World
cover_world = after 2 7 cover_steps

abbrev pub covered_move : Event
covered_move = event 2 2 1 (op.Set (at_stamp 1 1) (ToPlace (pos 90) (pos 90)))

-- what site 1 holds then
abbrev pub cover_held : List Event
cover_held =
    first_rect
    ∷ event 2 1 2 (op.Set (at_stamp 1 1) (ToPlace (pos 50) (pos 50)))
    ∷ event 3 1 3 (op.Set (at_stamp 1 1) (ToPlace (pos 60) (pos 60)))
    ∷ covered_move
    ∷ []

-- the second mail: site 2 holds the one event of site 1 and sends its own
abbrev pub cover_frame : Frame
cover_frame =
    record {
      head = record { session = 7; from = 2; to = 1; ack = 1; count = 1; clock = 2; check = 0x402983DB };
      note = no_note;
      events = covered_move ∷ [];
    }

-- its record lies behind the header, a create of 33 bytes with its gate and its check, and two moves of 30
abbrev pub cover_effects : List Effect
cover_effects =
    Work 0 ∷ Record 104 (take 3 cover_held) (covered_move ∷ [])
    ∷ Print (codes "echo 2.2 dropped by 3.1 move 1.1 90 90\n") ∷ []

abbrev pub cover_text : List (List ℕ)
cover_text = codes "rect 1.1 in - at 60 60 size 10 10 stroke 000000 fill none width 1\n" ∷ codes "end 1\n" ∷ []

-- ---- a raise that comes late is covered by a lower

abbrev pub new_ellipse : Event
new_ellipse = event 2 1 2 (op.Create Ellipse (pos 0) (pos 0) (pos 20) (pos 20) [])

abbrev pub covered_raise : Event
covered_raise = event 3 1 3 (op.Set (at_stamp 1 1) (ToRank (To Top)))

abbrev pub covering_lower : Event
covering_lower = event 3 2 1 (op.Set (at_stamp 1 1) (ToRank (To Bottom)))

-- all but the delivery of the late raise, and what comes after it
abbrev pub lower_begins : List Step
lower_begins =
    At 1 (Edits (new_rect (pos 0)))
    ∷ At 1 (Edits (op.Create Ellipse (pos 0) (pos 0) (pos 20) (pos 20) []))
    ∷ Send 1 2
    ∷ Deliver 0
    ∷ At 1 (Edits (op.Set (at_stamp 1 1) (ToRank Top)))
    ∷ At 2 (Edits (op.Set (at_stamp 1 1) (ToRank Bottom)))
    ∷ Send 1 2
    ∷ []

abbrev pub lower_steps : List Step
lower_steps = lower_begins ++ Deliver 1 ∷ Send 2 1 ∷ []

-- site 2 before the late raise comes, and site 1 before the lower comes
abbrev pub lowering_site : SlowSite
lowering_site = (after 2 7 lower_begins).at 2

abbrev pub raising_site : SlowSite
raising_site = (after 2 7 lower_steps).at 1

abbrev pub lower_world : World
lower_world = after 2 7 (lower_steps ++ Deliver 2 ∷ [])

-- the second mail and the third
abbrev pub raise_frame : Frame
raise_frame =
    record {
      head = record { session = 7; from = 1; to = 2; ack = 0; count = 3; clock = 3; check = 0xC0246ECA };
      note = no_note;
      events = first_rect ∷ new_ellipse ∷ covered_raise ∷ [];
    }

abbrev pub covering_frame : Frame
covering_frame =
    record {
      head = record { session = 7; from = 2; to = 1; ack = 3; count = 1; clock = 3; check = 0x67C47562 };
      note = no_note;
      events = covering_lower ∷ [];
    }

abbrev pub lower_text : List (List ℕ)
lower_text =
    codes "rect 1.1 in - at 0 0 size 10 10 stroke 000000 fill none width 1\n"
    ∷ codes "ellipse 2.1 in - at 0 0 size 20 20 stroke 000000 fill none width 1\n"
    ∷ codes "end 2\n"
    ∷ []

-- ---- two groups at once, one of which takes a member from the other

abbrev pub group_of : ℕ → ℕ → ℕ → ℕ → Edit
group_of clock site other_clock other_site = op.Group (at_stamp clock site ∷ at_stamp other_clock other_site ∷ [])

-- all but the delivery of the late group
abbrev pub closure_begins : List Step
closure_begins =
    At 1 (Edits (new_rect (pos 0)))
    ∷ At 1 (Edits (new_rect (pos 20)))
    ∷ At 2 (Edits (new_rect (pos 40)))
    ∷ Send 1 2
    ∷ Deliver 0
    ∷ At 2 (Edits (group_of 2 1 1 2))
    ∷ At 1 (Edits (op.Set (at_stamp 1 1) (ToRank Top)))
    ∷ At 1 (Edits (group_of 1 1 2 1))
    ∷ At 1 (Edits (move_to 4 1 5 5))
    ∷ Send 2 1
    ∷ []

abbrev pub closure_steps : List Step
closure_steps = closure_begins ++ Deliver 1 ∷ []

-- site 1 before the late group comes
abbrev pub closure_site : SlowSite
closure_site = (after 2 7 closure_begins).at 1

abbrev pub closure_world : World
closure_world = after 2 7 closure_steps

abbrev pub other_create : Event
other_create = event 1 2 1 (op.Create Rect (pos 40) (pos 0) (pos 10) (pos 10) [])

abbrev pub late_group : Event
late_group = event 3 2 2 (op.Group (member 1 2 (pos 0) (pos 0) ∷ member 2 1 (pos 0) (pos 0) ∷ []))

-- what site 1 holds then
abbrev pub closure_held : List Event
closure_held =
    first_rect
    ∷ event 2 1 2 (op.Create Rect (pos 20) (pos 0) (pos 10) (pos 10) [])
    ∷ event 3 1 3 (op.Set (at_stamp 1 1) (ToRank (To Top)))
    ∷ event 4 1 4 (op.Group (member 1 1 (pos 0) (pos 0) ∷ member 2 1 (pos 0) (pos 0) ∷ []))
    ∷ event 5 1 5 (op.Set (at_stamp 4 1) (ToPlace (pos 5) (pos 5)))
    ∷ other_create
    ∷ late_group
    ∷ []

-- the second mail: site 2 holds two events of site 1
abbrev pub closure_frame : Frame
closure_frame =
    record {
      head = record { session = 7; from = 2; to = 1; ack = 2; count = 2; clock = 3; check = 0xB342D5C4 };
      note = no_note;
      events = other_create ∷ late_group ∷ [];
    }

-- The create bears on nothing behind it. The group takes a member that the group 4.1 took, so that one and its move are
-- redone. Both are recorded behind one gate: with their gates and checks the records in front have 33, 33, 22, 46 and
-- 30 bytes.
abbrev pub closure_effects : List Effect
closure_effects =
    Work 1
    ∷ Work 5
    ∷ Record 175 (take 5 closure_held) (other_create ∷ late_group ∷ [])
    ∷ Print (codes "echo 1.2 applied create rect 40 0 10 10\n")
    ∷ Print (codes "echo 3.2 reworked 2 group 1.2 0 0 2.1 0 0\n")
    ∷ []

abbrev pub closure_text : List (List ℕ)
closure_text =
    codes "group 3.2 in - at 0 0\n"
    ∷ codes "rect 1.2 in 3.2 at 40 0 size 10 10 stroke 000000 fill none width 1\n"
    ∷ codes "group 4.1 in - at 5 5\n"
    ∷ codes "rect 2.1 in 4.1 at 25 5 size 10 10 stroke 000000 fill none width 1\n"
    ∷ codes "rect 1.1 in 4.1 at 5 5 size 10 10 stroke 000000 fill none width 1\n"
    ∷ codes "end 5\n"
    ∷ []

-- ---- the frames of site 2 for site 1 of 2

abbrev pub listener : SlowSite
listener = new_site 1 2 7

-- a rect of site 2, and moves of it
abbrev pub ahead_create : Event
ahead_create = event 1 2 1 (op.Create Rect (pos 0) (pos 0) (pos 10) (pos 10) [])

-- the event of that number and that clock
abbrev pub ahead_move : ℕ → Event
ahead_move k = event k 2 k (op.Set (at_stamp 1 2) (ToPlace (pos (k - 1)) (pos (k - 1))))

-- the checks of the first event, of the first two, and of the first four
abbrev pub check_one : ℕ
check_one = 0xBAFB18C2

abbrev pub check_two : ℕ
check_two = 0xC15B9524

abbrev pub check_four : ℕ
check_four = 0x858E99CD

-- a frame of that count, that clock, that check of so many events, and these events
abbrev pub frame_of : ℕ → ℕ → ℕ → List Event → Frame
frame_of count clock check events =
    record {
      head = record { session = 7; from = 2; to = 1; ack = 0; count = count; clock = clock; check = check };
      note = no_note;
      events = events;
    }

-- a frame of no event, with that note
abbrev pub noting_frame : Note → Frame
noting_frame note = record (frame_of 0 0 0 []) { note = note }

-- the first event, then the third and the fourth, then the second to the fourth
abbrev pub ahead_first : Frame
ahead_first = frame_of 1 1 check_one (ahead_create ∷ [])

abbrev pub ahead_gap : Frame
ahead_gap = frame_of 4 4 check_four (ahead_move 3 ∷ ahead_move 4 ∷ [])

abbrev pub ahead_rest : Frame
ahead_rest = frame_of 4 4 check_four (ahead_move 2 ∷ ahead_move 3 ∷ ahead_move 4 ∷ [])

-- the listener behind the first of these, behind the second too, and behind all three
abbrev pub ahead_one : SlowSite
ahead_one = take_frame listener ahead_first

abbrev pub ahead_none : SlowSite
ahead_none = take_frame ahead_one ahead_gap

abbrev pub ahead_all : SlowSite
ahead_all = take_frame ahead_none ahead_rest

-- two events under a clock of 9, and then an event of that clock
abbrev pub sure_frame : Frame
sure_frame = frame_of 2 9 check_two (ahead_create ∷ ahead_move 2 ∷ [])

abbrev pub sure_site : SlowSite
sure_site = take_frame listener sure_frame

abbrev pub sure_raise : Event
sure_raise = event 9 2 3 (op.Set (at_stamp 1 2) (ToRank (To Top)))

abbrev pub sure_late_frame : Frame
sure_late_frame = frame_of 3 9 0x701A5585 (sure_raise ∷ [])

-- two events, and then a frame of fewer with a clock of 9
abbrev pub two_held : SlowSite
two_held = take_frame listener (frame_of 2 2 check_two (ahead_create ∷ ahead_move 2 ∷ []))

abbrev pub lower_frame : Frame
lower_frame = frame_of 1 9 check_one []

-- heads that aren't those of a frame for the listener
abbrev pub ahead_head : Head
ahead_head = ahead_first.head

abbrev pub refused_heads : List (Head × Option FrameFault)
refused_heads =
    (record ahead_head { session = 8; to = 2 }, Some fault.Session)
    ∷ (record ahead_head { from = 1; to = 2 }, Some fault.NotForMe)
    ∷ (record ahead_head { from = 1; ack = 9 }, Some fault.FromMe)
    ∷ (record ahead_head { from = 3; ack = 9 }, Some fault.NoSuchSite)
    ∷ (record ahead_head { ack = 1 }, Some (fault.OverAck 1 0))
    ∷ (ahead_head, None)
    ∷ []

abbrev pub over_acknowledged : Frame
over_acknowledged = record ahead_first { head = record ahead_head { ack = 1 } }

-- ---- notes, mail and a restart

-- a note, an edit, and the mail of both
abbrev pub noted_steps : List Step
noted_steps =
    At 1 (Names (codes "Ann"))
    ∷ At 1 (Focuses (Some (at_stamp 9 2)))
    ∷ At 1 (Edits (new_rect (pos 0)))
    ∷ Send 1 2
    ∷ Deliver 0
    ∷ Deliver 0
    ∷ []

abbrev pub noted_world : World
noted_world = after 2 7 noted_steps

abbrev pub noted_note : Note
noted_note = record { number = 2; name = Some (codes "Ann"); focus = Some (at_stamp 9 2) }

-- the answer to that mail comes back
abbrev pub answered_world : World
answered_world = after 2 7 (noted_steps ++ Send 2 1 ∷ Deliver 1 ∷ [])

-- an event that site 1 had made, but not stored, when it stopped; and one that it had
abbrev pub lost_world : World
lost_world = after 2 7 (noted_steps ++ Restart 1 0 (Editing (new_rect (pos 20))) ∷ [])

abbrev pub stored_world : World
stored_world = after 2 7 (noted_steps ++ Restart 1 1 (Editing (new_rect (pos 20))) ∷ [])

-- a mail of two events, whose receiver stops when it has stored the first
abbrev pub taken_world : World
taken_world =
    after 2 7 (At 1 (Edits (new_rect (pos 0))) ∷ At 1 (Edits (new_rect (pos 20))) ∷ Send 1 2 ∷ Restart 2 1 (Taking 0)
    ∷ [])

-- ---- two mails of which the later one comes first

-- two answers of site 2, each with a note and with what it holds of site 1
abbrev pub turned_steps : List Step
turned_steps =
    At 1 (Edits (new_rect (pos 0)))
    ∷ Send 1 2
    ∷ Deliver 0
    ∷ At 2 (Names (codes "Ann"))
    ∷ Send 2 1
    ∷ At 1 (Edits (new_rect (pos 20)))
    ∷ Send 1 2
    ∷ Deliver 2
    ∷ At 2 (Names (codes "Bob"))
    ∷ Send 2 1
    ∷ Deliver 3
    ∷ Deliver 1
    ∷ []

abbrev pub turned_world : World
turned_world = after 2 7 turned_steps

abbrev pub named : ℕ → List ℕ → Note
named number name = record { number = number; name = Some name; focus = None }

-- the listener behind a note of site 2
abbrev pub noted_site : SlowSite
noted_site = take_frame listener (noting_frame (named 1 (codes "Ann")))

-- ---- the own note

-- a focus, and then a name
abbrev pub focused_world : World
focused_world = after 1 7 (At 1 (Focuses (Some (at_stamp 9 2))) ∷ At 1 (Names (codes "Ann")) ∷ [])

-- a site that has made so many notes
abbrev pub listener_of_note : ℕ → SlowSite
listener_of_note number = record listener { notes = λ site. record { number = number; name = None; focus = None } }
