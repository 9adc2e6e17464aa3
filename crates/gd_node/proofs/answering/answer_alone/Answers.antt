use Rattle.std.proofs.Common.{[], ◌∷◌, refl, sym, ◌∙◌, ap, subst}
use Rattle.std.specs.Prelude.{Ok, Err}
use Rattle.gd_base.specs.declared.refusal.Refusal.TheVariants.{NoGesture}
use Rattle.gd_dialogue.proofs.Carrying.{carries_prints}
use Rattle.gd_effects.proofs.Doing.{does_as, does_nothing}
use Rattle.gd_effects.specs.Outside.{outside}
use Rattle.gd_lines.specs.Refusals.{line_refusal}
use Rattle.gd_lines.specs.declared.command.Command.TheVariants as command
use Rattle.gd_lines.specs.declared.command.Command.{Command}
use Rattle.gd_lines.specs.declared.reply.Reply.TheVariants as reply
use Rattle.gd_node.proofs.Commands.{carries_asking, carries_command, carries_read}
use Rattle.gd_reference.specs.NodeRun.{IsRead}
use Rattle.gd_reference.specs.Said.{says}
use Rattle.gd_node.proofs.answering.answer_alone.Goals as goal

pub take_edit-requires-clause-ranged : goal.take_edit-requires-clause-ranged
take_edit-requires-clause-ranged g c =
    subst IsRead (c.in-Ok-Edit.is ∙ ap (λ (wanted : Command). Ok wanted) c.in-Ok-Edit.field-0-is) c.requires.read

pub returns-in-Ok-Edit : goal.returns-in-Ok-Edit
returns-in-Ok-Edit g c = carries_command c.args.line _ _ c.in-Ok-Edit.is c.in-Ok-Edit.field-0-is c.take_edit.ensures

pub returns-in-Ok-Turn : goal.returns-in-Ok-Turn
returns-in-Ok-Turn g c = carries_command c.args.line _ _ c.in-Ok-Turn.is c.in-Ok-Turn.field-0-is c.take_turn.ensures

pub returns-in-Ok-Name : goal.returns-in-Ok-Name
returns-in-Ok-Name g c
    = carries_command c.args.line _ _ c.in-Ok-Name.is c.in-Ok-Name.field-0-is (c.take_name.ensures _ _ _)

pub returns-in-Ok-Focus : goal.returns-in-Ok-Focus
returns-in-Ok-Focus g c
    = carries_command c.args.line _ _ c.in-Ok-Focus.is c.in-Ok-Focus.field-0-is (c.take_focus.ensures _ _ _)

pub returns-in-Ok-Show : goal.returns-in-Ok-Show
returns-in-Ok-Show g c
    = carries_asking c.args.line _ command.Show c.in-Ok-Show.is c.in-Ok-Show.field-0-is refl _ _ _ _ c.show.ensures

pub returns-in-Ok-Status : goal.returns-in-Ok-Status
returns-in-Ok-Status g c
    = carries_asking c.args.line _ command.Status c.in-Ok-Status.is c.in-Ok-Status.field-0-is refl _ _ _ _
    c.tell_status.ensures

pub returns-in-Ok-Who : goal.returns-in-Ok-Who
returns-in-Ok-Who g c
    = carries_asking c.args.line _ command.Who c.in-Ok-Who.is c.in-Ok-Who.field-0-is refl _ _ _ _ c.tell_who.ensures

pub returns-in-Ok-Poll : goal.returns-in-Ok-Poll
returns-in-Ok-Poll g c = carries_command c.args.line _ _ c.in-Ok-Poll.is c.in-Ok-Poll.field-0-is c.poll.ensures

pub returns-in-Ok-End : goal.returns-in-Ok-End
returns-in-Ok-End g c =
    carries_command c.args.line _ _ c.in-Ok-End.is c.in-Ok-End.field-0-is
    (carries_prints _ (λ slow. says (reply.Refused NoGesture) ∷ []) _ _ _ _ (λ slow m. c.say.ensures))

pub returns-in-Ok-Begin : goal.returns-in-Ok-Begin
returns-in-Ok-Begin g c =
    carries_asking c.args.line _ command.Begin c.in-Ok-Begin.is c.in-Ok-Begin.field-0-is refl _ _ _ _
    (λ slow stands input journal link steps. does_nothing (outside input _ journal link steps))

pub returns-in-Ok-Blank : goal.returns-in-Ok-Blank
returns-in-Ok-Blank g c =
    carries_asking c.args.line _ command.Blank c.in-Ok-Blank.is c.in-Ok-Blank.field-0-is refl _ _ _ _
    (λ slow stands input journal link steps. does_nothing (outside input _ journal link steps))

pub returns-in-Ok-Quit : goal.returns-in-Ok-Quit
returns-in-Ok-Quit g c =
    carries_asking c.args.line _ command.Quit c.in-Ok-Quit.is c.in-Ok-Quit.field-0-is refl _ _ _ _
    (λ slow stands input journal link steps. does_nothing (outside input _ journal link steps))

pub returns-in-Err : goal.returns-in-Err
returns-in-Err g c =
    carries_read c.args.line (Err c.in-Err.fault) c.in-Err.is
    (carries_prints _ (λ slow. says (reply.Refused (line_refusal c.in-Err.fault)) ∷ []) _ _ _ _
    (λ slow m input journal link steps. does_as
    (ap (λ why. says (reply.Refused why) ∷ []) (sym c.line_refusal-why.ensures))
    (c.say-in-Err.ensures input journal link steps)))
