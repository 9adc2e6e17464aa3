use Rattle.gd_member.proofs.member.Member.stands.Goals as goal

pub returns : goal.returns
returns c =
    let live = rw (← c.self.view_is) at c.requires in
    rw (← c.self.view_is) (c.self.invariant live)
