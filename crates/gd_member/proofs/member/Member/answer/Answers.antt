use Rattle.std.proofs.Common.{refl, subst, ◌∙◌, ap}
use Rattle.std.specs.Prelude.{Ok, Err}
use Rattle.gd_lines.specs.declared.command.Command.{Command}
use Rattle.gd_member.proofs.Typed.{answers_command, answers_other, answers_read, answers_refused, fault_refuses}
use Rattle.gd_member.proofs.Typed.{polls_nothing}
use Rattle.gd_reference.specs.NodeRun.{IsRead}
use Rattle.gd_member.proofs.member.Member.answer.Goals as goal

pub take_edit-requires-clause-ranged : goal.take_edit-requires-clause-ranged
take_edit-requires-clause-ranged g c =
    subst IsRead (c.in-Ok-Edit.is ∙ ap (λ (wanted : Command). Ok wanted) c.in-Ok-Edit.field-0-is) c.requires.read

pub returns-in-Ok-Edit : goal.returns-in-Ok-Edit
returns-in-Ok-Edit g c slow written stands =
    answers_command slow written _ _ _ _ _ _ c.args.line _ _ c.in-Ok-Edit.is c.in-Ok-Edit.field-0-is
    (c.take_edit.ensures slow written stands)

pub returns-in-Ok-Turn : goal.returns-in-Ok-Turn
returns-in-Ok-Turn g c slow written stands =
    answers_command slow written _ _ _ _ _ _ c.args.line _ _ c.in-Ok-Turn.is c.in-Ok-Turn.field-0-is
    (c.take_turn.ensures slow written stands)

pub returns-in-Ok-Name : goal.returns-in-Ok-Name
returns-in-Ok-Name g c slow written stands =
    answers_command slow written _ _ _ _ _ _ c.args.line _ _ c.in-Ok-Name.is c.in-Ok-Name.field-0-is
    (c.take_name.ensures slow written _ stands)

pub returns-in-Ok-Focus : goal.returns-in-Ok-Focus
returns-in-Ok-Focus g c slow written stands =
    answers_command slow written _ _ _ _ _ _ c.args.line _ _ c.in-Ok-Focus.is c.in-Ok-Focus.field-0-is
    (c.take_focus.ensures slow written _ stands)

pub returns-in-Ok-Status : goal.returns-in-Ok-Status
returns-in-Ok-Status g c slow written stands =
    answers_command slow written _ _ _ _ _ _ c.args.line _ _ c.in-Ok-Status.is c.in-Ok-Status.field-0-is
    (c.tell_status.ensures slow written _ stands)

pub returns-in-Ok-Who : goal.returns-in-Ok-Who
returns-in-Ok-Who g c slow written stands =
    answers_command slow written _ _ _ _ _ _ c.args.line _ _ c.in-Ok-Who.is c.in-Ok-Who.field-0-is
    (c.tell_who.ensures slow written _ stands)

pub returns-in-Ok-Show : goal.returns-in-Ok-Show
returns-in-Ok-Show g c slow written stands =
    answers_other slow written c.args.line _ _ c.in-Ok-Show.is c.in-Ok-Show.field-0-is
    (record { told_is = refl; replies_are = refl; counts = refl }) refl
    c.args.self.now stands c.args.said.now c.args.steps.now

pub returns-in-Ok-Poll : goal.returns-in-Ok-Poll
returns-in-Ok-Poll g c slow written stands =
    answers_other slow written c.args.line _ _ c.in-Ok-Poll.is c.in-Ok-Poll.field-0-is
    (record { told_is = refl; replies_are = refl; counts = refl }) (polls_nothing slow)
    c.args.self.now stands c.args.said.now c.args.steps.now

pub returns-in-Ok-Begin : goal.returns-in-Ok-Begin
returns-in-Ok-Begin g c slow written stands =
    answers_other slow written c.args.line _ _ c.in-Ok-Begin.is c.in-Ok-Begin.field-0-is
    (record { told_is = refl; replies_are = refl; counts = refl }) refl
    c.args.self.now stands c.args.said.now c.args.steps.now

pub returns-in-Ok-End : goal.returns-in-Ok-End
returns-in-Ok-End g c slow written stands =
    answers_other slow written c.args.line _ _ c.in-Ok-End.is c.in-Ok-End.field-0-is
    (record { told_is = refl; replies_are = refl; counts = refl }) refl
    c.args.self.now stands c.args.said.now c.args.steps.now

pub returns-in-Ok-Blank : goal.returns-in-Ok-Blank
returns-in-Ok-Blank g c slow written stands =
    answers_other slow written c.args.line _ _ c.in-Ok-Blank.is c.in-Ok-Blank.field-0-is
    (record { told_is = refl; replies_are = refl; counts = refl }) refl
    c.args.self.now stands c.args.said.now c.args.steps.now

pub returns-in-Ok-Quit : goal.returns-in-Ok-Quit
returns-in-Ok-Quit g c slow written stands =
    answers_other slow written c.args.line _ _ c.in-Ok-Quit.is c.in-Ok-Quit.field-0-is
    (record { told_is = refl; replies_are = refl; counts = refl }) refl
    c.args.self.now stands c.args.said.now c.args.steps.now

pub returns-in-Err : goal.returns-in-Err
returns-in-Err g c slow written stands =
    answers_read slow written _ _ _ _ _ _ c.args.line (Err c.in-Err.fault) c.in-Err.is
    (answers_refused slow written (Err c.in-Err.fault) _ _ _ _ _ _ (fault_refuses slow c.in-Err.fault) stands refl
    c.refuse.result
    (rw c.line_refusal.ensures at c.refuse.ensures))
