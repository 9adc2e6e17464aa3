use Rattle.gd_member.proofs.member.Member.note.Goals as goal

pub note-requires : goal.note-requires
note-requires c = rw (← c.self.view_is) at c.requires

pub returns : goal.returns
returns c slow written st =
    let s = rw (← c.self.view_is) at st in
    c.note.ensures slow s.stands.site
