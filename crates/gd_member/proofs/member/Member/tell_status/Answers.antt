use Rattle.std.proofs.Common.{refl, ◌∙◌}
use Rattle.std.specs.Prelude.{Ok}
use Rattle.gd_lines.specs.declared.command.Command.TheVariants as command
use Rattle.gd_lines.specs.declared.reply.Reply.TheVariants as reply
use Rattle.gd_member.proofs.Typed.{answers_asked, answers_short, one_said, status_comes}
use Rattle.gd_member.proofs.member.Member.tell_status.Goals as goal

pub returns-in_err-add : goal.returns-in_err-add
returns-in_err-add c slow written steps stands =
    answers_short slow written (Ok command.Status) c.from_residual.result c.from_residual.ensures.0 c.args.self.now
    stands _ _ _

pub returns : goal.returns
returns c slow written steps stands =
    answers_asked slow written (Ok command.Status) _ _ steps steps
    (status_comes slow c.status-status.result (c.status-status.ensures slow written stands)) refl
    c.args.self.now stands refl (c.in_ok-add.ensures ∙ one_said c.args.said.now (reply.Status c.status-status.result))
