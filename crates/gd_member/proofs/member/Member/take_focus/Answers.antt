use Rattle.std.proofs.Common.{arith}
use Rattle.std.specs.Prelude.{Ok}
use Rattle.gd_lines.specs.declared.command.Command.TheVariants as command
use Rattle.gd_member.proofs.Typed.{answers_said, focus_comes}
use Rattle.gd_member.proofs.member.Member.take_focus.Goals as goal

pub returns : goal.returns
returns c slow written steps stands =
    let noted = c.set_focus-noted in
    let put = c.say_noted.ensures in
    answers_said slow written (Ok (command.Focus c.args.focus)) _ _ _ _
    (focus_comes slow noted.result (noted.ensures.answer slow written stands) c.args.focus) _
    (noted.ensures.stands slow written stands) (omega arith) c.say_noted.result put.told put.said put.same put.spent
