use Rattle.std.specs.Prelude.{Ok}
use Rattle.gd_lines.specs.declared.command.Command.TheVariants as command
use Rattle.gd_member.proofs.Typed.{answers_done, answers_unturned, on_ok_through, turn_comes}
use Rattle.gd_reference.specs.World.{after_line}
use Rattle.gd_member.proofs.member.Member.take_turn.Goals as goal

pub returns-in-Ok : goal.returns-in-Ok
unfolding after_line
returns-in-Ok g c slow written stands =
    let which = c.args.which in
    let made = c.in-Ok.ensures in
    let put = c.or_spent.ensures in
    answers_done slow written (Ok (command.Turn which)) _ _ _ _
    (turn_comes slow which c.in-Ok.events (made.answer slow written stands)) _
    (made.stands slow written stands) (made.steps slow written stands) c.or_spent.result put.told
    (on_ok_through _ _ c.say_done-added.result put.said (rw c.as_slice.ensures at c.say_done-added.ensures)) put.same
    put.spent

pub returns-in-Err : goal.returns-in-Err
returns-in-Err g c slow written stands =
    let fell = c.in-Err.ensures in
    answers_unturned slow written c.args.which _ _ _ _ _ c.in-Err.fault (fell.answer slow written stands)
    (fell.keeps slow written stands)
    (fell.steps slow written stands) fell.spent c.refuse.result (rw c.back_refusal.ensures at c.refuse.ensures)
