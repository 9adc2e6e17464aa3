use Rattle.std.specs.Prelude.{Ok, option_map}
use Rattle.gd_answers.specs.Refusals.{refused_edit}
use Rattle.gd_lines.specs.Refusals.{edit_refusal}
use Rattle.gd_lines.specs.declared.command.Command.TheVariants as command
use Rattle.gd_member.proofs.Typed.{answers_refused, answers_said, edit_comes, edit_refuses, on_ok_through}
use Rattle.gd_reference.specs.World.{after_line}
use Rattle.gd_member.proofs.member.Member.take_edit.Goals as goal

pub returns-in-Ok : goal.returns-in-Ok
unfolding after_line
returns-in-Ok g c slow written stands =
    let wanted = c.args.edit.now in
    let made = c.in-Ok.ensures in
    let put = c.or_spent.ensures in
    answers_said slow written (Ok (command.Edit wanted)) _ _ _ _
    (edit_comes slow wanted c.in-Ok.id (made.answer slow written stands)) _
    (made.stands slow written stands) made.steps c.or_spent.result put.told
    (on_ok_through _ _ c.add-added.result put.said c.add-added.ensures) put.same put.spent

pub returns-in-Err : goal.returns-in-Err
unfolding after_line
returns-in-Err g c slow written stands =
    let wanted = c.args.edit.now in
    let why = c.in-Err.fault in
    let fell = c.in-Err.ensures in
    answers_refused slow written (Ok (command.Edit wanted)) _ _ _ _ _ (option_map edit_refusal (refused_edit why))
    (edit_refuses slow wanted why (fell.answer slow written stands)) (fell.err_stands slow written stands)
    fell.err_steps c.refuse.result
    (rw c.edit_refusal.ensures at c.refuse.ensures)
