use Rattle.std.proofs.Common.{arith}
use Rattle.std.specs.Prelude.{Ok}
use Rattle.gd_lines.specs.declared.command.Command.TheVariants as command
use Rattle.gd_member.proofs.Typed.{answers_said, name_comes}
use Rattle.gd_member.proofs.member.Member.take_name.Goals as goal

pub returns : goal.returns
returns c slow written steps stands =
    let noted = c.set_name-noted in
    let put = c.say_noted.ensures in
    answers_said slow written (Ok (command.Name c.args.name)) _ _ _ _
    (name_comes slow noted.result (noted.ensures.answer slow written stands) c.args.name) _
    (noted.ensures.stands slow written stands) (omega arith) c.say_noted.result put.told put.said put.same put.spent
