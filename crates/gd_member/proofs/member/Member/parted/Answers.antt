use Rattle.gd_member.proofs.member.Member.parted.Goals as goal

pub parted-requires : goal.parted-requires
parted-requires c = rw (← c.self.view_is) at c.requires

pub returns : goal.returns
returns c slow written st =
    let s = rw (← c.self.view_is) at st in
    c.parted.ensures slow s.stands.site
