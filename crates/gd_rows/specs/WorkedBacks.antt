-- Worked rows of undo and redo: what edits leave to take back and to do again, and what an undo and a redo do then.
--
-- What takes an edit back is read off the drawing in front of the edit, and what takes that back off the drawing
-- behind the edit. Drawings are worked from the events in the order of their stamps.
use Rattle.std.specs.Prelude.{ℕ, pos, negsuc, true, false, List, [], ◌∷◌, ◌++◌, map, replicate, codes, Option, Some}
use Rattle.std.specs.Prelude.{None}
use Rattle.gd_base.specs.Looks.{new_look, no_looks, only_fill, only_stroke, only_width}
use Rattle.gd_base.specs.Stamps.{Stamp}
use Rattle.gd_base.specs.declared.content.Content.TheVariants.{ToPlace, ToSize, ToLooks, ToText, ToFlag, ToEnds, ToRank}
use Rattle.gd_base.specs.declared.content.Height.TheVariants.{At}
use Rattle.gd_base.specs.declared.content.Side.TheVariants.{Bottom, Top}
use Rattle.gd_base.specs.declared.look.Dash.TheVariants.{Solid, Dashed}
use Rattle.gd_base.specs.declared.look.Heads.TheVariants.{Bare, AtEnd}
use Rattle.gd_base.specs.declared.object.Ends.{Ends}
use Rattle.gd_base.specs.declared.object.Link.{Link}
use Rattle.gd_base.specs.Whole.{Object}
use Rattle.gd_base.specs.declared.op.Op.TheVariants as op
use Rattle.gd_base.specs.declared.rank.Rank.{Rank}
use Rattle.gd_base.specs.declared.rank.Rank.TheVariants.{Low, High}
use Rattle.gd_base.specs.declared.shape.Shape.TheVariants.{Rect, Ellipse}
use Rattle.gd_base.specs.declared.ties.Tie.{Tie}
use Rattle.gd_effects.specs.Effects.{printed}
use Rattle.gd_events.specs.Events.{Event}
use Rattle.gd_events.specs.Ops.{Op}
use Rattle.gd_lines.specs.Edits.{Edit}
use Rattle.gd_lines.specs.declared.command.Command.TheVariants as command
use Rattle.gd_lines.specs.declared.command.Turn.{Turn}
use Rattle.gd_lines.specs.declared.command.Turn.TheVariants.{Undo, Redo}
use Rattle.gd_lines.specs.declared.reply.Reply.{Reply}
use Rattle.gd_lines.specs.declared.reply.Reply.TheVariants as reply
use Rattle.gd_model.specs.Objects.{new_connector, new_group, new_shape}
use Rattle.gd_reference.specs.Backs.{Backs}
use Rattle.gd_reference.specs.NodeRun.{HeardLine, site_after}
use Rattle.gd_reference.specs.SlowSite.{SlowSite, new_site}
use Rattle.gd_reference.specs.World as world
use Rattle.gd_reference.specs.TakeBack.{after_turn}
use Rattle.gd_reference.specs.World.{Line, Step, Edits, Send, Deliver, Restart, Turning, Turns, after}
use Rattle.gd_rows.specs.Worked.{at_stamp, event, group_line, square_line}
use Rattle.gd_rows.specs.WorkedNodes.{alone, asked}
use Rattle.gd_rows.specs.WorkedWorlds.{first_rect, group_of, move_to, new_rect}

-- ---- a site alone

abbrev pub edits : List Edit → List HeardLine
edits wanted = asked (map command.Edit wanted)

abbrev pub turns : ℕ → Turn → List HeardLine
turns n which = asked (replicate n (command.Turn which))

-- the site behind these lines, and what it prints
abbrev pub behind : List HeardLine → SlowSite
behind lines = site_after (new_site 1 1 7) [] lines

abbrev pub prints : List HeardLine → List ℕ
prints lines = printed (alone [] lines)

-- what there is to take back and to do again, the newest gesture first
abbrev pub gestures_of : List (List Op) → List (List Op) → Backs
gestures_of undos redos = record { undos = undos; redos = redos }

-- the same where each gesture is one edit
abbrev pub backs_of : List Op → List Op → Backs
backs_of undos redos = gestures_of (map (λ op. op ∷ []) undos) (map (λ op. op ∷ []) redos)

abbrev pub place_of : ℕ → ℕ → ℕ → ℕ → Op
place_of clock site x y = op.Set (at_stamp clock site) (ToPlace (pos x) (pos y))

-- the rect at x 0, as it was made at that stamp
abbrev pub rect_of : ℕ → ℕ → Object
rect_of clock site = new_shape (at_stamp clock site) Rect (pos 0) (pos 0) (pos 10) (pos 10) []

abbrev pub tie_to : ℕ → Option Link → Tie
tie_to clock link = record { id = at_stamp clock 1; link = link }

-- an object that is tied to the group of that clock with that shift, and one that is in no group
abbrev pub tied : ℕ → ℕ → ℕ → ℕ → Tie
tied clock group dx dy = tie_to clock (Some (record { parent = at_stamp group 1; dx = pos dx; dy = pos dy }))

abbrev pub free : ℕ → Tie
free clock = tie_to clock None

-- ---- two edits are taken back, and done again

abbrev pub made_and_moved : List HeardLine
made_and_moved = edits (new_rect (pos 0) ∷ move_to 1 1 50 60 ∷ [])

-- an undo and a redo more than there are edits
abbrev pub all_back : List HeardLine
all_back = made_and_moved ++ turns 3 Undo

abbrev pub all_again : List HeardLine
all_again = all_back ++ turns 3 Redo

abbrev pub all_back_printed : List ℕ
all_back_printed =
    codes "ready 1 of 1\nok 1.1\nok 2.1\nok 3.1\nend 1\nok 4.1\nend 1\nrefused: NothingBack\nend 0\nheld 4 kept 0 line 4 clock 4\n"

abbrev pub all_again_printed : List ℕ
all_again_printed =
    codes "ready 1 of 1\nok 1.1\nok 2.1\nok 3.1\nend 1\nok 4.1\nend 1\nrefused: NothingBack\n"
    ++ codes "ok 5.1\nend 1\nok 6.1\nend 1\nrefused: NothingBack\n"
    ++ square_line "1.1" "-" "50 60"
    ++ codes "end 1\n"

abbrev pub all_back_held : List Event
all_back_held =
    first_rect
    ∷ event 2 1 2 (place_of 1 1 50 60)
    ∷ event 3 1 3 (place_of 1 1 0 0)
    ∷ event 4 1 4 (op.Delete (at_stamp 1 1))
    ∷ []

abbrev pub all_again_held : List Event
all_again_held =
    all_back_held
    ++ event 5 1 5 (op.Restore (at_stamp 1 1) (rect_of 1 1) [])
    ∷ event 6 1 6 (place_of 1 1 50 60)
    ∷ []

-- where both are taken back
abbrev pub both_back : Backs
both_back = backs_of [] (op.Restore (at_stamp 1 1) (rect_of 1 1) [] ∷ place_of 1 1 50 60 ∷ [])

-- what is kept behind each of these
abbrev pub kept_on_the_way : List (List HeardLine × Backs)
kept_on_the_way =
    (made_and_moved, backs_of (place_of 1 1 0 0 ∷ op.Delete (at_stamp 1 1) ∷ []) [])
    ∷ (made_and_moved ++ turns 1 Undo, backs_of (op.Delete (at_stamp 1 1) ∷ []) (place_of 1 1 50 60 ∷ []))
    ∷ (made_and_moved ++ turns 2 Undo, both_back)
    ∷ (all_back, both_back)
    ∷ (all_back ++ turns 1 Redo, backs_of (op.Delete (at_stamp 1 1) ∷ []) (place_of 1 1 50 60 ∷ []))
    ∷ (all_back ++ turns 2 Redo, backs_of (place_of 1 1 0 0 ∷ op.Delete (at_stamp 1 1) ∷ []) [])
    ∷ (all_again, backs_of (place_of 1 1 0 0 ∷ op.Delete (at_stamp 1 1) ∷ []) [])
    ∷ []

-- ---- an edit forgets what could be done again

-- one edit of two is taken back, and then another rect is made: a redo is refused, and all that is left is taken back
abbrev pub forgetting : List HeardLine
forgetting = made_and_moved ++ turns 1 Undo ++ edits (new_rect (pos 20) ∷ [])

abbrev pub forgotten : List HeardLine
forgotten = forgetting ++ turns 1 Redo ++ turns 3 Undo

abbrev pub forgotten_printed : List ℕ
forgotten_printed =
    codes "ready 1 of 1\nok 1.1\nok 2.1\nok 3.1\nend 1\nok 4.1\nrefused: NothingBack\nok 5.1\nend 1\nok 6.1\nend 1\n"
    ++ codes "refused: NothingBack\nend 0\n"

-- an edit that is refused forgets nothing
abbrev pub refusing : List HeardLine
refusing = made_and_moved ++ turns 1 Undo ++ edits (move_to 9 9 0 0 ∷ []) ++ turns 1 Redo

abbrev pub refusing_printed : List ℕ
refusing_printed =
    codes "ready 1 of 1\nok 1.1\nok 2.1\nok 3.1\nend 1\nrefused: NoObject\nok 4.1\nend 1\n"
    ++ square_line "1.1" "-" "50 60"
    ++ codes "end 1\n"

-- ---- the back of each kind of edit

-- A shape with a size, a look and a label of its own stands in a group that was moved, so it is shown at 101 202 and
-- not at its own place. Another shape stands alone, and is connected to the group.
abbrev pub dressing : List HeardLine
dressing =
    edits
    (op.Create Rect (pos 1) (pos 2) (pos 3) (pos 4) (codes "old")
    ∷ new_rect (pos 20)
    ∷ new_rect (pos 40)
    ∷ op.Set (at_stamp 1 1) (ToLooks (only_stroke 0x00AB0C))
    ∷ op.Set (at_stamp 1 1) (ToLooks (only_fill (Some 0xFF8000)))
    ∷ op.Set (at_stamp 1 1) (ToLooks (only_width 9))
    ∷ group_of 1 1 2 1
    ∷ move_to 7 1 100 200
    ∷ op.Connect (record { from = at_stamp 3 1; to = at_stamp 7 1 }) []
    ∷ [])

abbrev pub dressed : SlowSite
dressed = behind dressing

abbrev pub dressed_text : List (List ℕ)
dressed_text =
    square_line "3.1" "-" "40 0"
    ∷ group_line "7.1" "-" "100 200"
    ∷ codes "rect 1.1 in 7.1 at 101 202 size 3 4 stroke 00AB0C fill FF8000 width 9 text old\n"
    ∷ square_line "2.1" "7.1" "120 200"
    ∷ codes "connector 9.1 in - from 3.1 to 7.1 stroke 000000 fill none width 1 heads end\n"
    ∷ codes "end 5\n"
    ∷ []

-- the newest first: what was set is set back, what was made is taken away, and the members of the group were in none
abbrev pub dressed_backs : List Op
dressed_backs =
    op.Delete (at_stamp 9 1)
    ∷ place_of 7 1 0 0
    ∷ op.Disband (at_stamp 7 1) (free 1 ∷ free 2 ∷ [])
    ∷ op.Set (at_stamp 1 1) (ToLooks (only_width 1))
    ∷ op.Set (at_stamp 1 1) (ToLooks (only_fill None))
    ∷ op.Set (at_stamp 1 1) (ToLooks (only_stroke 0))
    ∷ op.Delete (at_stamp 3 1)
    ∷ op.Delete (at_stamp 2 1)
    ∷ op.Delete (at_stamp 1 1)
    ∷ []

-- the shape as it is then, its group, and the connector
abbrev pub dressed_shape : Object
dressed_shape =
    record (new_shape (at_stamp 1 1) Rect (pos 1) (pos 2) (pos 3) (pos 4) (codes "old")) {
      look = record (new_look Bare) { stroke = 0x00AB0C; fill = Some 0xFF8000; width = 9 };
      link = Some (record { parent = at_stamp 7 1; dx = pos 0; dy = pos 0 });
    }

abbrev pub dressed_group : Object
dressed_group = record (new_group (at_stamp 7 1)) { x = pos 100; y = pos 200 }

abbrev pub dressed_connector : Object
dressed_connector = new_connector (at_stamp 9 1) (record { from = at_stamp 3 1; to = at_stamp 7 1 }) []

abbrev pub ranked : ℕ → Rank → Op
ranked clock rank = op.Set (at_stamp clock 1) (ToRank (At rank))

-- that shape, the one that stands alone, the group, and the connector
abbrev pub shape : Stamp
shape = at_stamp 1 1

abbrev pub lone : Stamp
lone = at_stamp 3 1

abbrev pub group : Stamp
group = at_stamp 7 1

abbrev pub connector : Stamp
connector = at_stamp 9 1

abbrev pub leads : Stamp → Stamp → Option Ends
leads from to = Some (record { from = from; to = to })

-- an edit, what takes it back, and what takes that back. The next stamp is 10.1
pub record Taken : Type 0 where
  pub edit : Edit
  pub back : Op
  pub again : Op

abbrev pub taken : Edit → Op → Op → Taken
taken edit back again = record { edit = edit; back = back; again = again }

abbrev pub made_and_taken : List Taken
made_and_taken =
    taken (op.Create Ellipse (pos 0) (pos 0) (pos 1) (pos 1) [])
    (op.Delete (at_stamp 10 1))
    (op.Restore (at_stamp 10 1) (new_shape (at_stamp 10 1) Ellipse (pos 0) (pos 0) (pos 1) (pos 1) []) [])
    -- a group of a shape and a group
    ∷ taken (group_of 7 1 3 1)
    (op.Disband (at_stamp 10 1) (free 3 ∷ free 7 ∷ []))
    (op.Restore (at_stamp 10 1) (new_group (at_stamp 10 1)) (tied 3 10 0 0 ∷ tied 7 10 0 0 ∷ []))
    -- a connector of a shape and a group
    ∷ taken (op.Connect (record { from = at_stamp 1 1; to = at_stamp 7 1 }) (codes "new"))
    (op.Delete (at_stamp 10 1))
    (op.Restore (at_stamp 10 1)
    (new_connector (at_stamp 10 1) (record { from = at_stamp 1 1; to = at_stamp 7 1 }) (codes "new")) [])
    -- what is deleted goes back as it was, with its link and its rank
    ∷ taken (op.Delete shape) (op.Restore shape dressed_shape []) (op.Delete shape)
    ∷ taken (op.Delete group) (op.Restore group dressed_group []) (op.Delete group)
    ∷ taken (op.Delete connector) (op.Restore connector dressed_connector []) (op.Delete connector)
    ∷ []

abbrev pub set_and_taken : List Taken
set_and_taken =
    -- own places: the shape is shown 100 200 further
    taken (move_to 1 1 7 8) (place_of 1 1 1 2) (op.Set shape (ToPlace (negsuc 92) (negsuc 191)))
    ∷ taken (move_to 7 1 0 0) (place_of 7 1 100 200) (place_of 7 1 0 0)
    ∷ taken (op.Set shape (ToSize (pos 5) (negsuc 5)))
    (op.Set shape (ToSize (pos 3) (pos 4)))
    (op.Set shape (ToSize (pos 5) (negsuc 5)))
    ∷ taken (op.Set shape (ToLooks (only_stroke 7))) (op.Set shape (ToLooks (only_stroke 0x00AB0C)))
    (op.Set shape (ToLooks (only_stroke 7)))
    ∷ taken (op.Set shape (ToLooks (only_fill None)))
    (op.Set shape (ToLooks (only_fill (Some 0xFF8000))))
    (op.Set shape (ToLooks (only_fill None)))
    ∷ taken (op.Set lone (ToLooks (only_fill (Some 7)))) (op.Set lone (ToLooks (only_fill None)))
    (op.Set lone (ToLooks (only_fill (Some 7))))
    ∷ taken (op.Set shape (ToLooks (only_width 7))) (op.Set shape (ToLooks (only_width 9)))
    (op.Set shape (ToLooks (only_width 7)))
    ∷ taken (op.Set shape (ToText [])) (op.Set shape (ToText (codes "old"))) (op.Set shape (ToText []))
    ∷ taken (op.Set lone (ToText (codes "new")))
    (op.Set lone (ToText []))
    (op.Set lone (ToText (codes "new")))
    -- several parts of a look, of which two are as the kind has them
    ∷ taken (op.Set shape
    (ToLooks (record no_looks { stroke = Some 7; dash = Some Dashed; round = Some (Some 4); align = Some None })))
    (op.Set shape (ToLooks
    (record no_looks { stroke = Some 0x00AB0C; dash = Some Solid; round = Some None; align = Some None })))
    (op.Set shape (ToLooks
    (record no_looks { stroke = Some 7; dash = Some Dashed; round = Some (Some 4); align = Some None })))
    -- a connector without heads, and between others
    ∷ taken (op.Set connector (ToLooks (record no_looks { heads = Some Bare })))
    (op.Set connector (ToLooks (record no_looks { heads = Some AtEnd })))
    (op.Set connector (ToLooks (record no_looks { heads = Some Bare })))
    ∷ taken (op.Set connector (ToEnds (leads shape lone)))
    (op.Set connector (ToEnds (leads lone group)))
    (op.Set connector (ToEnds (leads shape lone)))
    -- the group is whole again, and what was raised or lowered has the rank of its own stamp again
    ∷ taken (op.Set group (ToFlag true)) (op.Set group (ToFlag false)) (op.Set group (ToFlag true))
    ∷ taken (op.Set shape (ToRank Top)) (ranked 1 (High (at_stamp 1 1))) (ranked 1 (High (at_stamp 10 1)))
    ∷ taken (op.Set lone (ToRank Bottom)) (ranked 3 (High (at_stamp 3 1))) (ranked 3 (Low (at_stamp 10 1)))
    ∷ taken (op.Set group (ToRank Bottom)) (ranked 7 (High (at_stamp 7 1))) (ranked 7 (Low (at_stamp 10 1)))
    ∷ []

-- edits that are refused: no such object, a group, a shape, and a member
abbrev pub unacceptable : List Edit
unacceptable =
    move_to 9 9 0 0
    ∷ op.Set group (ToLooks (only_width 7))
    ∷ op.Set lone (ToFlag true)
    ∷ group_of 1 1 3 1
    ∷ []

-- and of ends: no such end, an end that is a connector, both ends the same, and a shape that is no connector
abbrev pub unjoined : List Edit
unjoined =
    op.Connect (record { from = lone; to = at_stamp 9 9 }) []
    ∷ op.Connect (record { from = lone; to = connector }) []
    ∷ op.Connect (record { from = lone; to = lone }) []
    ∷ op.Set lone (ToEnds (Some (record { from = shape; to = group })))
    ∷ []

-- ---- groups, one behind the other

-- a lowered rect and another one are grouped, and the group is moved, dissolved, and made anew of what was in it
abbrev pub regrouped : List HeardLine
regrouped =
    edits
    (new_rect (pos 0)
    ∷ new_rect (pos 20)
    ∷ op.Set (at_stamp 2 1) (ToRank Bottom)
    ∷ group_of 1 1 2 1
    ∷ move_to 4 1 5 7
    ∷ op.Set (at_stamp 4 1) (ToFlag true)
    ∷ group_of 1 1 2 1
    ∷ op.Set (at_stamp 2 1) (ToRank Top)
    ∷ [])

-- the members of the second group had the links of the first one; the raise goes back to the rank of the lower
abbrev pub regrouped_backs : List Op
regrouped_backs =
    ranked 2 (Low (at_stamp 3 1))
    ∷ op.Disband (at_stamp 7 1) (tied 1 4 0 0 ∷ tied 2 4 0 0 ∷ [])
    ∷ op.Set (at_stamp 4 1) (ToFlag false)
    ∷ place_of 4 1 0 0
    ∷ op.Disband (at_stamp 4 1) (free 1 ∷ free 2 ∷ [])
    ∷ ranked 2 (High (at_stamp 2 1))
    ∷ op.Delete (at_stamp 2 1)
    ∷ op.Delete (at_stamp 1 1)
    ∷ []

-- what is done again once all of them are taken back, the first edit first
abbrev pub regrouped_again : List Op
regrouped_again =
    op.Restore (at_stamp 1 1) (rect_of 1 1) []
    ∷ op.Restore (at_stamp 2 1) (record (rect_of 2 1) { x = pos 20 }) []
    ∷ ranked 2 (Low (at_stamp 3 1))
    ∷ op.Restore (at_stamp 4 1) (new_group (at_stamp 4 1)) (tied 1 4 0 0 ∷ tied 2 4 0 0 ∷ [])
    ∷ place_of 4 1 5 7
    ∷ op.Set (at_stamp 4 1) (ToFlag true)
    ∷ op.Restore (at_stamp 7 1) (new_group (at_stamp 7 1)) (tied 1 7 5 7 ∷ tied 2 7 5 7 ∷ [])
    ∷ ranked 2 (High (at_stamp 8 1))
    ∷ []

-- what is shown behind so many of the edits
abbrev pub regrouped_shown : List (ℕ × List (List ℕ))
regrouped_shown =
    (0, codes "end 0\n" ∷ [])
    ∷ (1, square_line "1.1" "-" "0 0" ∷ codes "end 1\n" ∷ [])
    ∷ (2, square_line "1.1" "-" "0 0" ∷ square_line "2.1" "-" "20 0" ∷ codes "end 2\n" ∷ [])
    ∷ (3, square_line "2.1" "-" "20 0" ∷ square_line "1.1" "-" "0 0" ∷ codes "end 2\n" ∷ [])
    ∷ (
      4,
      group_line "4.1" "-" "0 0"
          ∷ square_line "2.1" "4.1" "20 0"
          ∷ square_line "1.1" "4.1" "0 0"
          ∷ codes "end 3\n"
          ∷ [],
    )
    ∷ (
      5,
      group_line "4.1" "-" "5 7"
          ∷ square_line "2.1" "4.1" "25 7"
          ∷ square_line "1.1" "4.1" "5 7"
          ∷ codes "end 3\n"
          ∷ [],
    )
    ∷ (6, square_line "2.1" "-" "25 7" ∷ square_line "1.1" "-" "5 7" ∷ codes "end 2\n" ∷ [])
    ∷ (
      7,
      group_line "7.1" "-" "0 0"
          ∷ square_line "2.1" "7.1" "25 7"
          ∷ square_line "1.1" "7.1" "5 7"
          ∷ codes "end 3\n"
          ∷ [],
    )
    ∷ (
      8,
      group_line "7.1" "-" "0 0"
          ∷ square_line "1.1" "7.1" "5 7"
          ∷ square_line "2.1" "7.1" "25 7"
          ∷ codes "end 3\n"
          ∷ [],
    )
    ∷ []

-- a group in a group that was moved; a member of the inner one and that group are deleted
abbrev pub nested : List HeardLine
nested =
    edits
    (new_rect (pos 0)
    ∷ new_rect (pos 20)
    ∷ new_rect (pos 40)
    ∷ group_of 1 1 2 1
    ∷ group_of 3 1 4 1
    ∷ move_to 5 1 5 7
    ∷ op.Delete (at_stamp 1 1)
    ∷ op.Delete (at_stamp 4 1)
    ∷ [])

abbrev pub in_group : ℕ → Option Link
in_group clock = Some (record { parent = at_stamp clock 1; dx = pos 0; dy = pos 0 })

-- the deleted objects go back into the groups that they were in
abbrev pub nested_backs : List Op
nested_backs =
    op.Restore (at_stamp 4 1) (record (new_group (at_stamp 4 1)) { link = in_group 5 }) []
    ∷ op.Restore (at_stamp 1 1) (record (rect_of 1 1) { link = in_group 4 }) []
    ∷ place_of 5 1 0 0
    ∷ op.Disband (at_stamp 5 1) (free 3 ∷ free 4 ∷ [])
    ∷ op.Disband (at_stamp 4 1) (free 1 ∷ free 2 ∷ [])
    ∷ op.Delete (at_stamp 3 1)
    ∷ op.Delete (at_stamp 2 1)
    ∷ op.Delete (at_stamp 1 1)
    ∷ []

-- what is shown behind so many undos, and behind so many redos once all are taken back
abbrev pub nested_shown : List (ℕ × ℕ × List (List ℕ))
nested_shown =
    (0, 8, group_line "5.1" "-" "5 7" ∷ square_line "3.1" "5.1" "45 7" ∷ codes "end 2\n" ∷ [])
    ∷ (
      1,
      7,
      group_line "5.1" "-" "5 7"
          ∷ square_line "3.1" "5.1" "45 7"
          ∷ group_line "4.1" "5.1" "5 7"
          ∷ square_line "2.1" "4.1" "25 7"
          ∷ codes "end 4\n"
          ∷ [],
    )
    ∷ (
      2,
      6,
      group_line "5.1" "-" "5 7"
          ∷ square_line "3.1" "5.1" "45 7"
          ∷ group_line "4.1" "5.1" "5 7"
          ∷ square_line "1.1" "4.1" "5 7"
          ∷ square_line "2.1" "4.1" "25 7"
          ∷ codes "end 5\n"
          ∷ [],
    )
    ∷ (
      4,
      4,
      square_line "3.1" "-" "40 0"
          ∷ group_line "4.1" "-" "0 0"
          ∷ square_line "1.1" "4.1" "0 0"
          ∷ square_line "2.1" "4.1" "20 0"
          ∷ codes "end 4\n"
          ∷ [],
    )
    ∷ (
      5,
      3,
      square_line "1.1" "-" "0 0" ∷ square_line "2.1" "-" "20 0" ∷ square_line "3.1" "-" "40 0" ∷ codes "end 3\n" ∷ [],
    )
    ∷ []

-- ---- out of the range

-- a group goes to the greatest place, so that one member is shown behind the range. It is moved back into it, and an
-- undo shows it there again, as it sets the own place
abbrev pub far : List HeardLine
far = edits (new_rect (pos 0) ∷ new_rect (pos 20) ∷ group_of 1 1 2 1 ∷ move_to 3 1 1000000000 0 ∷ move_to 2 1 5 5 ∷ [])

abbrev pub far_shown : List (List ℕ)
far_shown =
    group_line "3.1" "-" "1000000000 0"
    ∷ square_line "1.1" "3.1" "1000000000 0"
    ∷ square_line "2.1" "3.1" "1000000020 0"
    ∷ codes "end 3\n"
    ∷ []

-- ---- two sites

-- a site of the two behind these steps
abbrev pub site_behind : ℕ → List Step → SlowSite
site_behind site steps = (after 2 7 steps).at site

abbrev pub at_one : List Line → List Step
at_one lines = map (λ l. world.At 1 l) lines

-- a rect that site 2 gets, and a move of site 1
abbrev pub moved_steps : List Step
moved_steps = at_one (Edits (new_rect (pos 0)) ∷ []) ++ Send 1 2 ∷ Deliver 0 ∷ at_one (Edits (move_to 1 1 50 60) ∷ [])

abbrev pub moved_backs : Backs
moved_backs = backs_of (place_of 1 1 0 0 ∷ op.Delete (at_stamp 1 1) ∷ []) []

abbrev pub undone_steps : List Step
undone_steps = moved_steps ++ world.At 1 (Turns Undo) ∷ Send 1 2 ∷ Deliver 1 ∷ []

-- Site 1 stops within the undo, and within a redo, and begins anew when so much of it was stored.
abbrev pub stopping : ℕ → List Step
stopping stored = moved_steps ++ Restart 1 stored (Turning Undo) ∷ []

abbrev pub stopping_again : ℕ → List Step
stopping_again stored = moved_steps ++ world.At 1 (Turns Undo) ∷ Restart 1 stored (Turning Redo) ∷ []

-- ---- another site deletes the object meanwhile

abbrev pub gone_steps : List Step
gone_steps = moved_steps ++ world.At 2 (Edits (op.Delete (at_stamp 1 1))) ∷ Send 2 1 ∷ Deliver 1 ∷ []

abbrev pub gone_site : SlowSite
gone_site = site_behind 1 gone_steps

-- Site 1 takes its move back, and then its rect: neither is there. Each changes nothing, and is itself what takes it
-- back.
abbrev pub gone_turns : List (List Turn × Backs)
gone_turns =
    (Undo ∷ [], backs_of (op.Delete (at_stamp 1 1) ∷ []) (place_of 1 1 0 0 ∷ []))
    ∷ (Undo ∷ Undo ∷ [], backs_of [] (op.Delete (at_stamp 1 1) ∷ place_of 1 1 0 0 ∷ []))
    ∷ (Undo ∷ Undo ∷ Redo ∷ Redo ∷ [], moved_backs)
    ∷ []

-- the site after these
abbrev pub turned : SlowSite → List Turn → SlowSite
turned slow [] = slow
turned slow (which ∷ more) = turned (after_turn slow which) more

-- ---- late events of another site beside a delete that is taken back

-- Site 1 moves the rect to 5 5 at 2.1, deletes it at 3.1, and takes that back at 4.1. Site 2 moves it to 50 60 at
-- 2.2, colours it at 3.2 and fills it at 4.2.
abbrev pub restoring : List Step
restoring =
    at_one (Edits (new_rect (pos 0)) ∷ [])
    ++ Send 1 2
    ∷ Deliver 0
    ∷ at_one (Edits (move_to 1 1 5 5) ∷ Edits (op.Delete (at_stamp 1 1)) ∷ Turns Undo ∷ [])
    ++ world.At 2 (Edits (move_to 1 1 50 60))
    ∷ world.At 2 (Edits (op.Set (at_stamp 1 1) (ToLooks (only_stroke 7))))
    ∷ world.At 2 (Edits (op.Set (at_stamp 1 1) (ToLooks (only_fill (Some 7)))))
    ∷ Send 2 1
    ∷ Send 1 2
    ∷ []

abbrev pub late_move : Event
late_move = event 2 2 1 (place_of 1 1 50 60)

abbrev pub late_stroke : Event
late_stroke = event 3 2 2 (op.Set (at_stamp 1 1) (ToLooks (only_stroke 7)))

abbrev pub late_fill : Event
late_fill = event 4 2 3 (op.Set (at_stamp 1 1) (ToLooks (only_fill (Some 7))))

-- what site 1 puts back is what it had when it deleted it, before site 2's events came
abbrev pub put_back : Event
put_back = event 4 1 4 (op.Restore (at_stamp 1 1) (record (rect_of 1 1) { x = pos 5; y = pos 5 }) [])

-- The move comes before the delete, and is covered by it. The stroke finds nothing, and is put before the restore.
-- The fill comes behind that.
abbrev pub told_to_one : List Reply
told_to_one =
    reply.Dropped (at_stamp 2 2) (at_stamp 3 1) late_move.op
    ∷ reply.Reworked (at_stamp 3 2) 1 late_stroke.op
    ∷ reply.Applied (at_stamp 4 2) late_fill.op
    ∷ []

-- At site 2 its own move covers the other, the delete is put before the stroke and the fill, and the restore before
-- the fill.
abbrev pub told_to_two : List Reply
told_to_two =
    reply.Dropped (at_stamp 2 1) (at_stamp 2 2) (place_of 1 1 5 5)
    ∷ reply.Reworked (at_stamp 3 1) 2 (op.Delete (at_stamp 1 1))
    ∷ reply.Reworked (at_stamp 4 1) 1 put_back.op
    ∷ []

abbrev pub restored : List Step
restored = restoring ++ Deliver 1 ∷ Deliver 2 ∷ []

abbrev pub restored_text : List (List ℕ)
restored_text =
    codes "rect 1.1 in - at 5 5 size 10 10 stroke 000000 fill 000007 width 1\n" ∷ codes "end 1\n" ∷ []

-- Site 1 deletes it again by a redo, which leaves the rect as it is now to be put back.
abbrev pub restored_backs : Backs
restored_backs =
    backs_of
    (op.Restore (at_stamp 1 1)
    (record (rect_of 1 1) { x = pos 5; y = pos 5; look = record (new_look Bare) { fill = Some 7 } }) []
    ∷ place_of 1 1 0 0
    ∷ op.Delete (at_stamp 1 1)
    ∷ [])
    []

-- Site 2 takes its move back, where that was lost: the rect goes to the place of before the move, and a redo leaves
-- it where it was before the undo.
abbrev pub lost_backs : List (List Turn × Backs)
lost_backs = (
  [],
  backs_of (op.Set (at_stamp 1 1) (ToLooks (only_fill None)) ∷ op.Set (at_stamp 1 1) (ToLooks (only_stroke 0))
      ∷ place_of 1 1 0 0 ∷ []) [],
)
    ∷ (
      Undo ∷ Undo ∷ Undo ∷ [],
      backs_of [] (place_of 1 1 5 5 ∷ op.Set shape (ToLooks (only_stroke 0))
          ∷ op.Set shape (ToLooks (only_fill (Some 7))) ∷ []),
    )
    ∷ (
      Undo ∷ Undo ∷ Undo ∷ Redo ∷ Redo ∷ Redo ∷ [],
      backs_of (op.Set (at_stamp 1 1) (ToLooks (only_fill None)) ∷ op.Set (at_stamp 1 1) (ToLooks (only_stroke 0))
          ∷ place_of 1 1 0 0 ∷ []) [],
    )
    ∷ []

-- ---- refusals

-- a site alone that made a rect at the clock before the greatest one, so an undo has the greatest one
abbrev pub last_site : SlowSite
last_site =
    record (new_site 1 1 7) {
      held = event 281474976710654 1 1 (op.Create Rect (pos 0) (pos 0) (pos 10) (pos 10) []) ∷ [];
      backs = backs_of (op.Delete (at_stamp 281474976710654 1) ∷ []) [];
    }

-- one whose undo would be so many events
abbrev pub owing : ℕ → SlowSite → SlowSite
owing count slow = record slow { backs = gestures_of (replicate count (op.Delete (at_stamp 1 1)) ∷ []) [] }

-- ---- how many are kept

-- gestures, of one event and of two
abbrev pub one : List Op
one = op.Delete (at_stamp 1 1) ∷ []

abbrev pub two : List Op
two = op.Delete (at_stamp 3 1) ∷ op.Delete (at_stamp 2 1) ∷ []

abbrev pub three : List Op
three = op.Delete (at_stamp 4 1) ∷ []
