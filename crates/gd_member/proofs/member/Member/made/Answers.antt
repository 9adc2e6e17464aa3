use Rattle.gd_member.proofs.member.Member.made.Goals as goal

pub returns : goal.returns
returns c slow written st =
    let s = rw (← c.self.view_is) at st in
    c.made.ensures slow s.stands.site
