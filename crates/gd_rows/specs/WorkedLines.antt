-- Worked rows of typed lines: what each is read as.
use Rattle.std.specs.Prelude.{ℕ, pos, negsuc, true, false, List, [], ◌∷◌, ◌++◌, codes, Some, None, Result, Ok, Err}
use Rattle.gd_base.specs.Looks.{new_look, no_looks, only_fill, only_stroke, only_width}
use Rattle.gd_base.specs.Stamps.{Stamp}
use Rattle.gd_base.specs.declared.content.Content.TheVariants.{ToPlace, ToSize, ToLooks, ToText, ToFlag, ToEnds, ToRank}
use Rattle.gd_base.specs.declared.content.Height.TheVariants.{To, At}
use Rattle.gd_base.specs.declared.content.Side.TheVariants.{Bottom, Top}
use Rattle.gd_base.specs.declared.look.Align.TheVariants.{Start, Middle}
use Rattle.gd_base.specs.declared.look.Dash.TheVariants.{Solid, Dashed, Dotted}
use Rattle.gd_base.specs.declared.look.Heads.TheVariants.{Bare, AtStart, AtBoth}
use Rattle.gd_base.specs.declared.look.Looks.{Looks}
use Rattle.gd_base.specs.declared.note.Note.{Note}
use Rattle.gd_base.specs.declared.object.Ends.{Ends}
use Rattle.gd_base.specs.Whole.{Object}
use Rattle.gd_base.specs.declared.op.Op.TheVariants as op
use Rattle.gd_base.specs.declared.rank.Rank.TheVariants.{Low, High}
use Rattle.gd_base.specs.declared.shape.Shape.TheVariants.{Rect, Ellipse}
use Rattle.gd_base.specs.declared.ties.Tie.{Tie}
use Rattle.gd_events.specs.Ops.{Op}
use Rattle.gd_base.specs.declared.refusal.LineFault.{LineFault}
use Rattle.gd_base.specs.declared.refusal.LineFault.TheVariants as fault
use Rattle.gd_lines.specs.declared.command.Command.{Command}
use Rattle.gd_lines.specs.declared.command.Command.TheVariants as command
use Rattle.gd_lines.specs.declared.command.Turn.TheVariants.{Undo, Redo}
use Rattle.gd_lines.specs.declared.command.ScriptLine.{ScriptLine}
use Rattle.gd_lines.specs.declared.command.ScriptLine.TheVariants as script
use Rattle.gd_lines.specs.declared.reply.Reply.{Reply}
use Rattle.gd_lines.specs.declared.reply.Reply.TheVariants as reply
use Rattle.gd_model.specs.Objects.{new_connector, new_group, new_shape}
use Rattle.gd_rows.specs.Worked.{at_stamp, member}

-- what sets looks of 1.1
abbrev pub looks_of : Looks → Command
looks_of looks = command.Edit (op.Set (at_stamp 1 1) (ToLooks looks))

-- lines with a label and without, with spaces in front, and with a CR at the end
abbrev pub read_lines : List (List ℕ × Command)
read_lines =
    (codes "text 1.2  a b ", command.Edit (op.Set (at_stamp 1 2) (ToText (codes " a b "))))
    ∷ (codes "text 1.2", command.Edit (op.Set (at_stamp 1 2) (ToText [])))
    ∷ (codes " group 2.1  01.16" ++ 13 ∷ [], command.Edit (op.Group (at_stamp 2 1 ∷ at_stamp 1 16 ∷ [])))
    ∷ (codes "text 1.2 a\\nb\\\\", command.Edit (op.Set (at_stamp 1 2) (ToText (codes "a" ++ 10 ∷ codes "b\\"))))
    ∷ (codes "connect 1.2 3.1", command.Edit (op.Connect (record { from = at_stamp 1 2; to = at_stamp 3 1 }) []))
    ∷ (
      codes "connect 1.2 3.1  a ",
      command.Edit
          (op.Connect (record { from = at_stamp 1 2; to = at_stamp 3 1 }) (codes " a ")),
    )
    ∷ (
      codes "reconnect 5.1 3.1 1.2",
      command.Edit (op.Set (at_stamp 5 1) (ToEnds (Some (record { from = at_stamp 3 1; to = at_stamp 1 2 })))),
    )
    ∷ (codes "dash 1.1 dotted", looks_of (record no_looks { dash = Some Dotted }))
    ∷ (codes "heads 1.1 both", looks_of (record no_looks { heads = Some AtBoth }))
    ∷ (codes "round 1.1 0", looks_of (record no_looks { round = Some (Some 0) }))
    ∷ (codes "opacity 1.1 100", looks_of (record no_looks { opacity = Some 100 }))
    ∷ (codes "size 1.1 1000", looks_of (record no_looks { letters = Some (Some 1000) }))
    ∷ (codes "align 1.1 start", looks_of (record no_looks { align = Some (Some Start) }))
    ∷ (codes "stroke 1.1 00ab0c", looks_of (only_stroke 0x00AB0C))
    ∷ (
      codes "style 1.1 size 24 stroke ff0000 fill none",
      looks_of (record no_looks { stroke = Some 0xFF0000; fill = Some None; letters = Some (Some 24) }),
    )
    ∷ (codes "lower 1.1", command.Edit (op.Set (at_stamp 1 1) (ToRank Bottom)))
    ∷ (codes "undo", command.Turn Undo)
    ∷ (codes " redo ", command.Turn Redo)
    ∷ (codes "begin", command.Begin)
    ∷ (codes " end " ++ 13 ∷ [], command.End)
    ∷ (codes "focus -", command.Focus None)
    ∷ (codes "  " ++ 13 ∷ [], command.Blank)
    ∷ []

abbrev pub faulty_lines : List (List ℕ × LineFault)
faulty_lines =
    (codes "paint 1", fault.UnknownCommand)
    ∷ (codes "move x y", fault.WrongCount)
    ∷ (codes "undo 1", fault.WrongCount)
    ∷ (codes "redo 1", fault.WrongCount)
    ∷ (codes "begin 1", fault.WrongCount)
    ∷ (codes "end 1", fault.WrongCount)
    ∷ (codes "End", fault.UnknownCommand)
    ∷ (codes "Redo", fault.UnknownCommand)
    ∷ (codes "create rect 0 0 1 ", fault.WrongCount)
    ∷ (codes "create Rect x 0 1 1", fault.BadKind)
    ∷ (codes "create rect x 0 1 1", fault.BadNumber)
    ∷ (codes "text 9.17 " ++ 255 ∷ [], fault.BadId)
    ∷ (codes "text 9.16 " ++ 255 ∷ [], fault.BadLabel)
    ∷ (codes "show" ++ 13 ∷ 13 ∷ [], fault.UnknownCommand)
    -- a backslash before another letter, and at the end
    ∷ (codes "text 9.16 a\\t", fault.BadLabel)
    ∷ (codes "text 9.16 a\\", fault.BadLabel)
    ∷ (codes "connect 1.1", fault.WrongCount)
    ∷ (codes "connect 1.1 2.17 a\\", fault.BadId)
    ∷ (codes "connect 1.1 2.1 a\\", fault.BadLabel)
    ∷ (codes "reconnect 1.1 2.1", fault.WrongCount)
    ∷ (codes "reconnect 1.1 2.1 3.1 4.1", fault.WrongCount)
    ∷ (codes "dash 1.1 none", fault.BadLook)
    ∷ (codes "heads 1.1 Both", fault.BadLook)
    ∷ (codes "align 1.1 left", fault.BadLook)
    ∷ (codes "round 1.1 1000001", fault.BadNumber)
    ∷ (codes "round 1.1 none", fault.BadNumber)
    ∷ (codes "opacity 1.1 0", fault.BadNumber)
    ∷ (codes "opacity 1.1 101", fault.BadNumber)
    ∷ (codes "size 1.1 0", fault.BadNumber)
    ∷ (codes "size 1.1 1001", fault.BadNumber)
    -- no part, a part without a value, one of no name, and one that was named
    ∷ (codes "style 1.1", fault.WrongCount)
    ∷ (codes "style 1.1 dash", fault.WrongCount)
    ∷ (codes "style 1.1 colour 000000", fault.BadLook)
    ∷ (codes "style 1.1 dash solid dash dashed", fault.BadLook)
    ∷ (codes "style 1.1 stroke none x y", fault.BadColour)
    ∷ (codes "style 1.1 width 65 dash none", fault.BadNumber)
    ∷ []

-- lines of a rehearsal
abbrev pub script_lines : List (List ℕ × Result ScriptLine LineFault)
script_lines =
    (codes "at 2 show", Ok (script.At 2 command.Show))
    ∷ (codes "at 2 undo", Ok (script.At 2 (command.Turn Undo)))
    ∷ (codes "at 2 redo", Ok (script.At 2 (command.Turn Redo)))
    ∷ (codes "deliver -0", Ok (script.Deliver 0))
    ∷ (codes "at x paint", Err fault.UnknownCommand)
    ∷ (codes "at 1 poll", Err fault.UnknownCommand)
    ∷ (codes "at 1 begin", Err fault.UnknownCommand)
    ∷ (codes "at 1 end", Err fault.UnknownCommand)
    ∷ (codes "at x show 1", Err fault.WrongCount)
    ∷ (codes "at x move a b c", Err fault.BadNumber)
    ∷ []

-- notes with everything, and with nothing but a number
abbrev pub ada : Note
ada = record { number = 2; name = Some (codes "Ada"); focus = Some (at_stamp 1 1) }

abbrev pub nobody : Note
nobody = record { number = 1; name = None; focus = None }

-- ---- echoes

-- of an event that was applied
abbrev pub applied : Op → Reply
applied op = reply.Applied (at_stamp 9 1) op

-- of an object of site 1
abbrev pub one : Stamp
one = at_stamp 1 1

-- ends of site 1
abbrev pub between : ℕ → ℕ → Ends
between from to = record { from = at_stamp from 1; to = at_stamp to 1 }

-- a shape as it was: with a fill, a width and a label, and lowered
abbrev pub old_shape : Object
old_shape =
    record (new_shape (at_stamp 1 2) Rect (pos 1) (pos 2) (negsuc 2) (pos 4) (codes "Hi")) {
      look = record (new_look Bare) { fill = Some 0x00FF00; width = 7 };
      rank = Low (at_stamp 14 2);
    }

-- a connector as it was, with a look of its own
abbrev pub old_connector : Object
old_connector =
    record (new_connector (at_stamp 5 1) (between 1 3) (codes "a" ++ 10 ∷ [])) {
      look = record (new_look AtBoth)
          { dash = Dotted; round = Some 0; opacity = 50; letters = Some 24; align = Some Start };
    }

-- a dissolved group in a group
abbrev pub old_group : Object
old_group =
    record (new_group (at_stamp 3 1)) {
      x = pos 5;
      y = negsuc 6;
      link = Some (record { parent = at_stamp 4 1; dx = pos 1; dy = pos 2 });
      dissolved = true;
    }

-- ties to no group, and to one with a shift
abbrev pub ties : List Tie
ties =
    record { id = at_stamp 1 1; link = None }
    ∷ record { id = at_stamp 2 1; link = Some (record { parent = at_stamp 4 1; dx = pos 5; dy = pos 5 }) }
    ∷ []

abbrev pub echoes : List (Reply × List ℕ)
echoes =
    (reply.Applied (at_stamp 4 1) (op.Set one (ToPlace (pos 5) (pos 5))), codes "echo 4.1 applied move 1.1 5 5\n")
    ∷ (
      reply.Dropped (at_stamp 7 1) (at_stamp 9 2) (op.Set one (ToText (codes "Hi"))),
      codes
          "echo 7.1 dropped by 9.2 text 1.1 Hi\n",
    )
    ∷ (
      reply.Reworked (at_stamp 8 1) 3 (op.Group (member 1 1 (pos 0) (pos 0) ∷ member 2 1 (pos 5) (pos 5) ∷ [])),
      codes "echo 8.1 reworked 3 group 1.1 0 0 2.1 5 5\n",
    )
    ∷ (applied (op.Disband (at_stamp 3 1) ties), codes "echo 9.1 applied disband 3.1 tie 1.1 in - tie 2.1 in 4.1 5 5\n")
    ∷ (
      reply.Applied (at_stamp 16 2) (op.Restore (at_stamp 1 2) old_shape []),
      codes "echo 16.2 applied restore 1.2 rect 1 2 -3 4 000000 00FF00 7 in - low 14.2 text Hi\n",
    )
    ∷ (
      applied (op.Restore (at_stamp 3 1) old_group ties),
      codes "echo 9.1 applied restore 3.1 group 5 -7 0 0 000000 none 1 in 4.1 1 2 dissolved high 3.1 tie 1.1 in - tie 2.1 in 4.1 5 5\n",
    )
    ∷ (
      applied (op.Create Rect (pos 0) (negsuc 0) (pos 10) (pos 10) []),
      codes
          "echo 9.1 applied create rect 0 -1 10 10\n",
    )
    ∷ (
      applied (op.Create Ellipse (pos 0) (pos 0) (pos 1) (pos 1) (codes " a ")),
      codes
          "echo 9.1 applied create ellipse 0 0 1 1  a \n",
    )
    ∷ (applied (op.Delete one), codes "echo 9.1 applied delete 1.1\n")
    ∷ (applied (op.Set one (ToSize (negsuc 0) (pos 2))), codes "echo 9.1 applied resize 1.1 -1 2\n")
    ∷ (applied (op.Set one (ToLooks (only_stroke 0x00AB0C))), codes "echo 9.1 applied stroke 1.1 00AB0C\n")
    ∷ (applied (op.Set one (ToLooks (only_fill (Some 0xFF8000)))), codes "echo 9.1 applied fill 1.1 FF8000\n")
    ∷ (applied (op.Set one (ToLooks (only_fill None))), codes "echo 9.1 applied fill 1.1 none\n")
    ∷ (applied (op.Set one (ToLooks (only_width 64))), codes "echo 9.1 applied width 1.1 64\n")
    ∷ (applied (op.Set one (ToText [])), codes "echo 9.1 applied text 1.1\n")
    ∷ (applied (op.Set one (ToText (codes "a\\" ++ 10 ∷ codes "b"))), codes "echo 9.1 applied text 1.1 a\\\\\\nb\n")
    ∷ (
      applied (op.Set one (ToLooks (record no_looks { dash = Some Dashed }))),
      codes
          "echo 9.1 applied dash 1.1 dashed\n",
    )
    ∷ (
      applied (op.Set one (ToLooks (record no_looks { heads = Some AtStart }))),
      codes
          "echo 9.1 applied heads 1.1 start\n",
    )
    -- an undo sets a part back as the kind has it
    ∷ (
      applied (op.Set one (ToLooks (record no_looks { round = Some None }))),
      codes
          "echo 9.1 applied round 1.1 none\n",
    )
    ∷ (
      applied (op.Set one (ToLooks (record no_looks { opacity = Some 100 }))),
      codes
          "echo 9.1 applied opacity 1.1 100\n",
    )
    ∷ (
      applied (op.Set one (ToLooks (record no_looks { letters = Some None }))),
      codes
          "echo 9.1 applied size 1.1 none\n",
    )
    ∷ (
      applied (op.Set one (ToLooks (record no_looks { align = Some (Some Middle) }))),
      codes
          "echo 9.1 applied align 1.1 middle\n",
    )
    ∷ (
      applied (op.Set one (ToLooks (record no_looks { letters = Some (Some 9); fill = Some None; dash = Some Solid }))),
      codes "echo 9.1 applied style 1.1 fill none dash solid size 9\n",
    )
    ∷ (applied (op.Connect (between 1 3) []), codes "echo 9.1 applied connect 1.1 3.1\n")
    ∷ (applied (op.Connect (between 1 3) (codes " a")), codes "echo 9.1 applied connect 1.1 3.1  a\n")
    ∷ (applied (op.Set (at_stamp 5 1) (ToEnds (Some (between 3 1)))), codes "echo 9.1 applied reconnect 5.1 3.1 1.1\n")
    ∷ (
      applied (op.Restore (at_stamp 5 1) old_connector []),
      codes "echo 9.1 applied restore 5.1 connector 1.1 3.1 0 0 0 0 000000 none 1 dash dotted heads both round 0 opacity 50 size 24 align start"
          ++ codes " in - high 5.1 text a\\n\n",
    )
    ∷ (applied (op.Set one (ToFlag true)), codes "echo 9.1 applied ungroup 1.1\n")
    ∷ (applied (op.Set one (ToFlag false)), codes "echo 9.1 applied reopen 1.1\n")
    ∷ (applied (op.Set one (ToRank (To Top))), codes "echo 9.1 applied raise 1.1\n")
    ∷ (applied (op.Set one (ToRank (To Bottom))), codes "echo 9.1 applied lower 1.1\n")
    ∷ (applied (op.Set one (ToRank (At (High (at_stamp 5 2))))), codes "echo 9.1 applied rerank 1.1 high 5.2\n")
    ∷ []
