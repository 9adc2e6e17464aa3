-- Worked rows of churn: what is drawn from a number, what a step asks for, and what is printed at the end.
--
-- The draws are worked by the public definition of PCG32 and of its seeds, and all else by hand.
use Prim.Native.String.{String}
use Rattle.std.specs.Prelude.{ℕ, zero, suc, pos, true, List, [], ◌∷◌, ◌++◌, length, map, replicate, codes, Option, Some}
use Rattle.std.specs.Prelude.{None}
use Rattle.rand_pcg.specs.Lcg.{Lcg}
use Rattle.rand_pcg.specs.Pcg.{pcg32}
use Rattle.gd_base.specs.Looks.{no_looks, only_stroke}
use Rattle.gd_base.specs.Stamps.{Stamp}
use Rattle.gd_base.specs.declared.content.Content.TheVariants.{ToLooks, ToText, ToFlag, ToEnds, ToRank}
use Rattle.gd_base.specs.declared.content.Side.TheVariants.{Top}
use Rattle.gd_base.specs.declared.look.Dash.TheVariants.{Dashed}
use Rattle.gd_base.specs.declared.op.Op.TheVariants as op
use Rattle.gd_base.specs.declared.refusal.Refusal.TheVariants.{NoObject}
use Rattle.gd_base.specs.declared.shape.Shape.TheVariants.{Rect}
use Rattle.gd_events.specs.Ops.{Op}
use Rattle.gd_lines.specs.Edits.{Edit}
use Rattle.gd_lines.specs.declared.command.Command.TheVariants as command
use Rattle.gd_lines.specs.declared.command.Turn.{Turn}
use Rattle.gd_lines.specs.declared.command.Turn.TheVariants.{Undo, Redo}
use Rattle.gd_lines.specs.declared.command.ScriptLine.{ScriptLine}
use Rattle.gd_lines.specs.declared.command.ScriptLine.TheVariants as script
use Rattle.gd_lines.specs.declared.reply.Reply.{Reply}
use Rattle.gd_lines.specs.declared.reply.Reply.TheVariants as reply
use Rattle.gd_reference.specs.World.{World, Edits, At, after}
use Rattle.gd_worlds.specs.Churn.{Churning, Counts, line_for, new_churning, send, step, stepped}
use Rattle.gd_rows.specs.Worked.{at_stamp}
use Rattle.gd_rows.specs.WorkedRehearsals.{with_lf}
use Rattle.gd_rows.specs.WorkedWorlds.{move_to, new_rect}

-- ---- draws

abbrev pub seeded : ℕ → Lcg
seeded seed = (new_churning seed).generator

-- the next words
abbrev pub words : ℕ → Lcg → List ℕ
words zero generator = []
words (suc n) generator = (pcg32 generator).0 ∷ words n (pcg32 generator).1

-- ---- what a step asks for

abbrev pub edit_at : ℕ → Edit → Option ScriptLine
edit_at site edit = Some (script.At site (command.Edit edit))

abbrev pub create_at : ℕ → ℕ → ℕ → Option ScriptLine
create_at site x y = edit_at site (op.Create Rect (pos x) (pos y) (pos 10) (pos 10) [])

abbrev pub three_made : List Stamp
three_made = at_stamp 1 1 ∷ at_stamp 2 3 ∷ at_stamp 5 2 ∷ []

-- the line of site 3 by a number, where these were made and so many mails sent, and the word behind what was drawn
-- for it
abbrev pub drawn_by : List Stamp → ℕ → ℕ → Option ScriptLine × ℕ
drawn_by made mails number = let (line, behind) = line_for made mails 3 number (seeded 26) in (line, (pcg32 behind).0)

abbrev pub numbers : List ℕ
numbers = 0 ∷ 1 ∷ 2 ∷ 3 ∷ 4 ∷ 5 ∷ 6 ∷ 7 ∷ 8 ∷ 9 ∷ 10 ∷ 11 ∷ 12 ∷ 13 ∷ 14 ∷ 15 ∷ 16 ∷ 17 ∷ 18 ∷ 19 ∷ 20 ∷ 21 ∷ []

abbrev pub turn_at : ℕ → Turn → Option ScriptLine
turn_at site which = Some (script.At site (command.Turn which))

-- an undo and a redo draw nothing
abbrev pub turned_table : List (Option ScriptLine × ℕ)
turned_table = (turn_at 3 Undo, 148789253) ∷ (turn_at 3 Redo, 148789253) ∷ []

-- the words of this seed are 148789253, 77906497, 1297502356, 3230469346 and 2565941027
abbrev pub drawn_table : List (Option ScriptLine × ℕ)
drawn_table =
    replicate 4 (create_at 3 253 497, 1297502356)
    ++ replicate 3 (edit_at 3 (move_to 5 2 497 356), 3230469346)
    ++ (edit_at 3 (op.Delete (at_stamp 5 2)), 77906497)
    ∷ (edit_at 3 (op.Set (at_stamp 5 2) (ToRank Top)), 77906497)
    ∷ (edit_at 3 (op.Group (at_stamp 5 2 ∷ at_stamp 2 3 ∷ [])), 1297502356)
    ∷ (edit_at 3 (op.Set (at_stamp 5 2) (ToFlag true)), 77906497)
    ∷ (edit_at 3 (op.Set (at_stamp 5 2) (ToLooks (only_stroke 10797633))), 1297502356)
    ∷ replicate 2 (Some (script.Send 3 2), 77906497)
    ++ replicate 2 (Some (script.Deliver 4), 77906497)
    ++ turned_table
    ++ (edit_at 3 (op.Connect (record { from = at_stamp 5 2; to = at_stamp 2 3 }) []), 1297502356)
    ∷ (
      edit_at 3 (op.Set (at_stamp 5 2) (ToEnds (Some (record { from = at_stamp 2 3; to = at_stamp 2 3 })))),
      3230469346,
    )
    ∷ (
      edit_at 3 (op.Set (at_stamp 5 2)
          (ToLooks (record no_looks { stroke = Some 10797633; dash = Some Dashed; opacity = Some 47 }))),
      2565941027,
    )
    ∷ (edit_at 3 (op.Set (at_stamp 5 2) (ToText (codes "churn" ++ 10 ∷ codes "t"))), 1297502356)
    ∷ []

-- the same where nothing was made and no mail sent
abbrev pub idle_table : List (Option ScriptLine × ℕ)
idle_table =
    replicate 4 (create_at 3 253 497, 1297502356)
    ++ replicate 8 (None, 148789253)
    ++ replicate 2 (Some (script.Send 3 2), 77906497)
    ++ replicate 2 (None, 148789253)
    ++ turned_table
    ++ replicate 4 (None, 148789253)

-- the site to which each of the four sends by the first word of a seed
abbrev pub sent_to : ℕ → List (Option ScriptLine)
sent_to seed = map (λ site. (send site (seeded seed)).0) (1 ∷ 2 ∷ 3 ∷ 4 ∷ [])

-- where that word is 0, 1 and 2 modulo 3
abbrev pub sends : List (List (Option ScriptLine))
sends =
    (Some (script.Send 1 2) ∷ Some (script.Send 2 3) ∷ Some (script.Send 3 4) ∷ Some (script.Send 4 1) ∷ [])
    ∷ (Some (script.Send 1 3) ∷ Some (script.Send 2 4) ∷ Some (script.Send 3 1) ∷ Some (script.Send 4 2) ∷ [])
    ∷ (Some (script.Send 1 4) ∷ Some (script.Send 2 1) ∷ Some (script.Send 3 2) ∷ Some (script.Send 4 3) ∷ [])
    ∷ []

-- ---- steps

-- the lines of so many steps
abbrev pub lines_drawn : ℕ → Churning → List (Option ScriptLine)
lines_drawn zero c = []
lines_drawn (suc n) c = (step c.made (length c.world.mail) c.generator).0 ∷ lines_drawn n (stepped c)

-- Site 3 makes a rect, which site 2 gets, another one, and a group of both, which it connects to one of its members. A
-- group is picked among, as what it holds. Site 2 moves and raises the rect.
abbrev pub group_lines : List (Option ScriptLine)
group_lines =
    create_at 3 936 594
    ∷ Some (script.Send 3 2)
    ∷ Some (script.Deliver 1)
    ∷ create_at 3 686 621
    ∷ edit_at 3 (op.Group (at_stamp 2 3 ∷ at_stamp 1 3 ∷ []))
    ∷ edit_at 2 (move_to 1 3 275 278)
    ∷ edit_at 3 (op.Connect (record { from = at_stamp 3 3; to = at_stamp 1 3 }) [])
    ∷ edit_at 2 (op.Set (at_stamp 1 3) (ToRank Top))
    ∷ []

abbrev pub group_made : List Stamp
group_made = at_stamp 1 3 ∷ at_stamp 2 3 ∷ at_stamp 3 3 ∷ at_stamp 4 3 ∷ []

-- Site 3 makes a rect, which site 1 gets, and deletes it. Site 1 raises and moves it, makes another one, and connects
-- the two.
abbrev pub eight_lines : List (Option ScriptLine)
eight_lines =
    create_at 3 534 90
    ∷ Some (script.Send 3 1)
    ∷ Some (script.Deliver 1)
    ∷ edit_at 3 (op.Delete (at_stamp 1 3))
    ∷ edit_at 1 (op.Set (at_stamp 1 3) (ToRank Top))
    ∷ edit_at 1 (move_to 1 3 921 462)
    ∷ create_at 1 516 204
    ∷ edit_at 1 (op.Connect (record { from = at_stamp 1 3; to = at_stamp 4 1 }) [])
    ∷ []

-- ---- what is printed

abbrev pub four_lines : String → List (List ℕ)
four_lines status =
    (codes "site 1 " ++ with_lf status)
    ∷ (codes "site 2 " ++ with_lf status)
    ∷ (codes "site 3 " ++ with_lf status)
    ∷ (codes "site 4 " ++ with_lf status)
    ∷ []

-- where each site stands, how often edits and mail came, and how the events went; all sites show the same
abbrev pub seven_lines : String → String → String → List (List ℕ)
seven_lines status edits arrivals = four_lines status ++ with_lf edits ∷ with_lf arrivals ∷ with_lf "same yes" ∷ []

-- nothing but one round, since all hold all from the beginning
abbrev pub nothing_printed : List (List ℕ)
nothing_printed =
    seven_lines
    "held 0 kept 0 line 0 clock 0"
    "edits 0 refused 0 sent 12 delivered 12 idle 0"
    "arrivals applied 0 dropped 0 reworked 0 undone 0"

-- All but the connector, and two rounds: six events at their sites, and then those of the first round, in which the
-- sites 1 and 3 have events for the others, and behind which all hold all. First site 1 sends its raise, its move and
-- its rect: to site 2, which holds nothing; to site 3, where the delete covers the raise; and to site 4. Then site 3
-- sends its delete to site 1, where it comes before the move, which is redone; and its rect and its delete to the sites
-- 2 and 4, where the rect comes before the raise and the move, and the delete before the move.
abbrev pub seven_works : List ℕ
seven_works = replicate 6 1 ++ 1 ∷ 1 ∷ 1 ∷ 0 ∷ 1 ∷ 1 ∷ 1 ∷ 1 ∷ 1 ∷ 3 ∷ 5 ∷ 3 ∷ 5 ∷ 3 ∷ []

abbrev pub seven_printed : List (List ℕ)
seven_printed =
    seven_lines
    "held 5 kept 0 line 4 clock 4"
    "edits 5 refused 0 sent 25 delivered 25 idle 0"
    "arrivals applied 9 dropped 1 reworked 5 undone 7"

-- With the connector, which nothing of its ends hangs on: it is applied wherever it comes.
abbrev pub eight_works : List ℕ
eight_works = replicate 7 1 ++ 1 ∷ 1 ∷ 1 ∷ 1 ∷ 0 ∷ 1 ∷ 1 ∷ 1 ∷ 1 ∷ 1 ∷ 1 ∷ 1 ∷ 3 ∷ 5 ∷ 3 ∷ 5 ∷ 3 ∷ []

abbrev pub eight_printed : List (List ℕ)
eight_printed =
    seven_lines
    "held 6 kept 0 line 5 clock 5"
    "edits 6 refused 0 sent 25 delivered 25 idle 0"
    "arrivals applied 12 dropped 1 reworked 5 undone 7"

-- ---- counts

abbrev pub deletion : Op
deletion = op.Delete (at_stamp 1 1)

-- so many answers of each kind, and one that doesn't count
abbrev pub counted_replies : List Reply
counted_replies =
    reply.Done (at_stamp 1 1)
    ∷ replicate 2 (reply.Refused NoObject)
    ++ replicate 3 (reply.Mail 1)
    ++ replicate 4 (reply.Delivered 1)
    ++ replicate 5 (reply.Applied (at_stamp 2 1) deletion)
    ++ replicate 6 (reply.Dropped (at_stamp 2 1) (at_stamp 3 1) deletion)
    ++ reply.Reworked (at_stamp 2 1) 3 deletion
    ∷ reply.Reworked (at_stamp 2 1) 5 deletion
    ∷ reply.End 9
    ∷ []

abbrev pub counts : Counts
counts =
    record {
      edits = 1;
      refused = 2;
      sent = 3;
      delivered = 4;
      idle = 7;
      arrivals
          = record { applied = 5; dropped = 6; reworked = 2; undone = 8 };
    }

abbrev pub counts_printed : List (List ℕ)
counts_printed =
    seven_lines
    "held 0 kept 0 line 0 clock 0"
    "edits 1 refused 2 sent 3 delivered 4 idle 7"
    "arrivals applied 5 dropped 6 reworked 2 undone 8"

-- lines with their answers, and the ids that these make
abbrev pub making : List (ScriptLine × List Reply × List Stamp)
making =
    (script.At 1 (command.Edit (new_rect (pos 0))), reply.Done (at_stamp 1 1) ∷ [], at_stamp 1 1 ∷ [])
    ∷ (
      script.At 1 (command.Edit (op.Group (at_stamp 1 1 ∷ at_stamp 2 1 ∷ []))),
      reply.Done (at_stamp 3 1)
          ∷ [],
      at_stamp 3 1 ∷ [],
    )
    ∷ (script.At 1 (command.Edit (new_rect (pos 0))), reply.Refused NoObject ∷ [], [])
    ∷ (script.At 1 (command.Edit (move_to 1 1 5 5)), reply.Done (at_stamp 2 1) ∷ [], [])
    ∷ (script.At 1 (command.Turn Redo), reply.Done (at_stamp 4 1) ∷ reply.End 1 ∷ [], [])
    ∷ []

-- one site alone has made a rect
abbrev pub one_made : ℕ → World
one_made site = after 4 1 (At site (Edits (new_rect (pos 0))) ∷ [])

-- one site has made a rect and deleted it, so it shows what the others show
abbrev pub one_gone : World
one_gone = after 4 1 (At 1 (Edits (new_rect (pos 0))) ∷ At 1 (Edits (op.Delete (at_stamp 1 1))) ∷ [])
