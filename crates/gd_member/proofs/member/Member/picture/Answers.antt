use Rattle.gd_member.proofs.member.Member.picture.Goals as goal

pub returns : goal.returns
returns c slow written st =
    let s = rw (← c.self.view_is) at st in
    c.picture.ensures slow s.stands.site
