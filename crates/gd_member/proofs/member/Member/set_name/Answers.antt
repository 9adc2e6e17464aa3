use Rattle.std.proofs.Common.{refl}
use Rattle.gd_member.proofs.Standing.{stands_named}
use Rattle.gd_reference.specs.World.{Names, after_line}
use Rattle.gd_member.proofs.member.Member.set_name.Goals as goal

pub invariant_of-self : goal.invariant_of-self
invariant_of-self c live =
    let met = c.self.invariant (rw (← c.self.view_is) at c.requires) in (
      after_line met.0 (Names c.args.name),
      met.1,
      stands_named met.2 c.args.name (c.set_name.ensures.stands met.0 met.2.stands.site) refl refl live,
    )

pub returns-clause-answer : goal.returns-clause-answer
returns-clause-answer c slow written st =
    let s = rw (← c.self.view_is) at st in
    c.set_name.ensures.answer slow s.stands.site

pub returns-clause-stands : goal.returns-clause-stands
returns-clause-stands c slow written st =
    let s = rw (← c.self.view_is) at st in
    stands_named s c.args.name (c.set_name.ensures.stands slow s.stands.site) refl refl s.live
