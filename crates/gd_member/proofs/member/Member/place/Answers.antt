use Rattle.std.proofs.Common.{◌∙◌}
use Rattle.gd_member.proofs.member.Member.place.Goals as goal

pub returns : goal.returns
returns c slow written st =
    let s = rw (← c.self.view_is) at st in
    c.place.ensures ∙ s.unwritten.place_is
