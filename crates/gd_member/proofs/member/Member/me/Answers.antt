use Rattle.std.proofs.Common.{ap, ◌∙◌}
use Rattle.gd_member.specs.Members.{MemberValue}
use Rattle.gd_member.proofs.member.Member.me.Goals as goal

pub returns-clause-number : goal.returns-clause-number
returns-clause-number c = c.me.ensures.me ∙ ap (λ (m : MemberValue). m.site.peers.me) c.self.view_is

pub returns-clause-slow : goal.returns-clause-slow
returns-clause-slow c slow written st =
    let s = rw (← c.self.view_is) at st in
    c.me.ensures.slow slow s.stands.site
