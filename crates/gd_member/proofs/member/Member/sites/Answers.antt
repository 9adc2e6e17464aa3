use Rattle.std.proofs.Common.{ap, ◌∙◌}
use Rattle.gd_member.specs.Members.{MemberValue}
use Rattle.gd_member.proofs.member.Member.sites.Goals as goal

pub returns-clause-number : goal.returns-clause-number
returns-clause-number c = c.sites.ensures.sites ∙ ap (λ (m : MemberValue). m.site.peers.sites) c.self.view_is

pub returns-clause-slow : goal.returns-clause-slow
returns-clause-slow c slow written st =
    let s = rw (← c.self.view_is) at st in
    c.sites.ensures.slow slow s.stands.site
