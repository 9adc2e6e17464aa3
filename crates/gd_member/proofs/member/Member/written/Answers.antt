use Rattle.std.proofs.Common.{refl}
use Rattle.gd_member.proofs.Standing.{near, stands_written}
use Rattle.gd_member.proofs.member.Member.written.Goals as goal

pub close-requires : goal.close-requires
close-requires c =
    let met = c.self.invariant (rw (← c.self.view_is) at c.requires) in
    near met.2

pub invariant_of-self : goal.invariant_of-self
invariant_of-self c live =
    let met = c.self.invariant (rw (← c.self.view_is) at c.requires) in
    (met.0, met.0.held, stands_written met.2 live refl refl (c.close.ensures met.1 met.2.others met.2.unwritten))

pub returns : goal.returns
returns c slow written st =
    let s = rw (← c.self.view_is) at st in
    stands_written s s.live refl refl (c.close.ensures written s.others s.unwritten)
