use Rattle.std.proofs.Common.{refl}
use Rattle.gd_member.proofs.Frames.{stands_taken}
use Rattle.gd_reference.specs.Offers.{take_frame}
use Rattle.gd_member.proofs.member.Member.take_read.Goals as goal

pub take_into-requires : goal.take_into-requires
take_into-requires g c =
    let met = c.self.invariant (rw (← c.self.view_is) at c.requires) in
    (met.0, met.2.stands.site)

pub invariant_of-self : goal.invariant_of-self
invariant_of-self g c live =
    let met = c.self.invariant (rw (← c.self.view_is) at c.requires) in
    let f = c.args.frame.now in
    let took = c.in-Ok.ensures in
    let site = met.2.stands.site in (
      take_frame met.0 f,
      met.1,
      stands_taken met.0 f met.2 live (took.stands met.0 site) refl (took.unwritten met.0 site),
    )

pub returns-in-Ok-clause-sender : goal.returns-in-Ok-clause-sender
returns-in-Ok-clause-sender g c slow written st =
    let s = rw (← c.self.view_is) at st in
    c.in-Ok.ensures.sender slow s.stands.site

pub returns-in-Ok-clause-stands : goal.returns-in-Ok-clause-stands
returns-in-Ok-clause-stands g c slow written st =
    let s = rw (← c.self.view_is) at st in
    let took = c.in-Ok.ensures in
    stands_taken slow c.args.frame.now s s.live (took.stands slow s.stands.site) refl
    (took.unwritten slow s.stands.site)

pub returns-in-Ok-clause-said : goal.returns-in-Ok-clause-said
returns-in-Ok-clause-said g c slow written st =
    let s = rw (← c.self.view_is) at st in
    c.in-Ok.ensures.said slow s.stands.site

pub returns-in-Ok-clause-steps : goal.returns-in-Ok-clause-steps
returns-in-Ok-clause-steps g c slow written st =
    let s = rw (← c.self.view_is) at st in
    c.in-Ok.ensures.steps slow s.stands.site

pub returns-in-Err-clause-err_steps : goal.returns-in-Err-clause-err_steps
returns-in-Err-clause-err_steps g c slow written st =
    let s = rw (← c.self.view_is) at st in
    c.in-Err.ensures.err_steps slow s.stands.site
