use Rattle.gd_member.proofs.member.Member.session.Goals as goal

pub returns : goal.returns
returns c slow written st =
    let s = rw (← c.self.view_is) at st in
    c.session.ensures.slow slow s.stands.site
