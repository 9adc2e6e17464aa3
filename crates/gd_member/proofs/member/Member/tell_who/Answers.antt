use Rattle.std.proofs.Common.{refl, sym, subst}
use Rattle.std.specs.Prelude.{Ok}
use Rattle.gd_lines.specs.declared.command.Command.TheVariants as command
use Rattle.gd_member.proofs.Typed.{answers_asked, answers_short, who_comes}
use Rattle.gd_member.specs.Members.{MemberValue}
use Rattle.gd_site.specs.Sites.{StandsFor}
use Rattle.gd_member.proofs.member.Member.tell_who.Goals as goal

pub returns-in_err-say_who : goal.returns-in_err-say_who
returns-in_err-say_who c slow written steps stands =
    answers_short slow written (Ok command.Who) c.from_residual.result c.from_residual.ensures.0 c.args.self.now stands
    _ _ _

pub returns : goal.returns
returns c slow written steps stands =
    let inside = subst (λ (m : MemberValue). StandsFor slow m.site) (sym c.self.view_is) stands.stands.site in
    answers_asked slow written (Ok command.Who) _ _ steps steps (who_comes slow) refl c.args.self.now stands refl
    (c.in_ok-say_who.ensures slow inside)
