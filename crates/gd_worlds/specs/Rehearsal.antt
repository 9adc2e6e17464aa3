-- The reference run of a rehearsal: one person plays all sites of a session, and the network between them, line by
-- line.
--
-- What a site is asked for (`at S COMMAND`) it answers as any site does. But a world has neither journals nor a link:
-- nothing is recorded, and no frame is tried. Two lines are the network. `send S T` makes the frame of site S for site
-- T the next mail, and prints its number. `deliver N` hands mail N to the site that it is for, and prints what that
-- site says of it, and then the number. No mail is ever taken away, so it comes late, twice, or never, as the lines
-- say. Lines number mail from 1.
--
-- A site that isn't of the session is refused, and so is a send from a site to itself, both as NoSite; a number of no
-- mail is refused as NoMail. What is refused changes nothing. A blank line does nothing, a faulty line is printed as
-- refused, and `quit` ends the run. So does a line that is too long or one too many, which is said. What a line costs
-- in steps is taken before anything is printed of it.
use Rattle.std.specs.Prelude.{ℕ, zero, suc, ◌+◌, Bool, true, false, not, ◌&&◌, List, [], ◌∷◌, ◌++◌, length, Option}
use Rattle.std.specs.Prelude.{Some, None, Result, Ok, Err, slice_get, ◌==◌, if◌then◌else◌}
use Rattle.std.specs.List.{filter}
use Rattle.gd_base.specs.Sites.{is_site}
use Rattle.gd_base.specs.declared.refusal.LineFault.{LineFault}
use Rattle.gd_base.specs.declared.refusal.Refusal.TheVariants.{NoSite, NoMail}
use Rattle.gd_effects.specs.Effects.{Effect, Work}
use Rattle.gd_grammar.specs.FrameBytes.{Frame}
use Rattle.gd_lines.specs.Refusals.{line_refusal}
use Rattle.gd_lines.specs.ScriptLines.{read_script}
use Rattle.gd_lines.specs.declared.command.Command.{Command}
use Rattle.gd_lines.specs.declared.command.Command.TheVariants as command
use Rattle.gd_lines.specs.declared.command.ScriptLine.{ScriptLine}
use Rattle.gd_lines.specs.declared.command.ScriptLine.TheVariants as script
use Rattle.gd_lines.specs.declared.reply.Reply.{Reply}
use Rattle.gd_lines.specs.declared.reply.Reply.TheVariants as reply
use Rattle.gd_outside.specs.declared.status.Status.{Status}
use Rattle.gd_reference.specs.Dialogues.{Manner, answered, end_of_lines, state_after}
use Rattle.gd_reference.specs.InputLines.{Heard, heard, lines_of}
use Rattle.gd_reference.specs.NodeRun.{command_replies, of_command}
use Rattle.gd_reference.specs.Said.{all_said}
use Rattle.gd_reference.specs.SiteEffects.{frame_replies, of_frame}
use Rattle.gd_reference.specs.World.{World, Line, Edits, Turns, Names, Focuses, Prints, At, Send, Deliver, happens}
use Rattle.gd_reference.specs.World.{start}

-- a line as it was read: what it asks for, or why it is no line
abbrev pub ReadScript : Type 0
ReadScript = Result ScriptLine LineFault

-- ---- the network

-- two sites of the session, and not one and the same
abbrev pub may_send : World → ℕ → ℕ → Bool
may_send w from to = is_site w.sites from && is_site w.sites to && not (from == to)

-- the mail of that number, where there is one: a world numbers mail from 0, and 0 is no number of a line
abbrev pub mail_of : World → ℕ → Option Frame
mail_of w zero = None
mail_of w (suc mail) = slice_get w.mail mail

-- ---- what is said of a line

-- what the receiver of a mail says of it, and then the number
abbrev pub delivery_replies : World → ℕ → Option Frame → List Reply
delivery_replies w number None = reply.Refused NoMail ∷ []
delivery_replies w number (Some f) = frame_replies (w.at f.head.to) f ++ reply.Delivered number ∷ []

abbrev pub script_replies : World → ReadScript → List Reply
script_replies w (Ok script.Blank) = []
script_replies w (Ok (script.At site asked)) =
    if is_site w.sites site then command_replies (w.at site) asked else reply.Refused NoSite ∷ []
script_replies w (Ok (script.Send from to)) =
    (if may_send w from to then reply.Mail (length w.mail + 1) else reply.Refused NoSite) ∷ []
script_replies w (Ok (script.Deliver number)) = delivery_replies w number (mail_of w number)
script_replies w (Ok script.Quit) = []
script_replies w (Err fault) = reply.Refused (line_refusal fault) ∷ []

-- ---- what a line costs

-- what the receiver of a mail does, where there is one
abbrev pub of_delivery : World → Option Frame → List Effect
of_delivery w None = []
of_delivery w (Some f) = of_frame (w.at f.head.to) f

-- what a site does by a line
abbrev pub of_site : World → ReadScript → List Effect
of_site w (Ok (script.At site asked)) = if is_site w.sites site then of_command (w.at site) [] (Ok asked) else []
of_site w (Ok (script.Deliver number)) = of_delivery w (mail_of w number)
of_site w other = []

abbrev pub is_work : Effect → Bool
is_work (Work n) = true
is_work other = false

-- the steps of that, which are all that a world has of it
abbrev pub script_work : World → ReadScript → List Effect
script_work w line = filter is_work (of_site w line)

-- ---- what a line does

abbrev pub of_script : World → ReadScript → List Effect
of_script w line = script_work w line ++ all_said (script_replies w line)

-- what a site is told by what it is asked for
abbrev pub told_by : Command → Line
told_by (command.Edit edit) = Edits edit
told_by (command.Turn which) = Turns which
told_by (command.Name name) = Names name
told_by (command.Focus focus) = Focuses focus
told_by other = Prints

-- the world after a line: a step of a world that names no site or no mail of it changes nothing
abbrev pub after_script : World → ReadScript → World
after_script w (Ok (script.At site asked)) = happens w (At site (told_by asked))
after_script w (Ok (script.Send from to)) = happens w (Send from to)
after_script w (Ok (script.Deliver zero)) = w
after_script w (Ok (script.Deliver (suc mail))) = happens w (Deliver mail)
after_script w other = w

abbrev pub is_last : ReadScript → Bool
is_last (Ok script.Quit) = true
is_last other = false

-- ---- the run

abbrev pub rehearsal_manner : Manner ReadScript World
rehearsal_manner =
    record {
      effects = λ w entries line. of_script w line;
      state = λ w entries line. after_script w line;
      left = λ w entries line. entries;
      ends = is_last;
    }

abbrev pub HeardScript : Type 0
HeardScript = Heard ReadScript

-- the effects of lines in session 1 of so many new sites, the world after them, and how they end
abbrev pub rehearsal_effects : ℕ → List HeardScript → List Effect
rehearsal_effects sites lines = answered rehearsal_manner (start sites 1) [] lines

abbrev pub rehearsal_after : ℕ → List HeardScript → World
rehearsal_after sites lines = state_after rehearsal_manner (start sites 1) [] lines

abbrev pub rehearsal_end : List HeardScript → Status
rehearsal_end lines = end_of_lines rehearsal_manner lines

abbrev pub most_rehearsal_lines : ℕ
most_rehearsal_lines = 100000

-- the lines that are heard in the bytes of an input
unfoldable pub rehearsal_lines : List ℕ → List HeardScript
rehearsal_lines input = heard read_script most_rehearsal_lines (lines_of input)
