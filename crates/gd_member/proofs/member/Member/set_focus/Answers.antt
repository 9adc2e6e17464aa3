use Rattle.std.proofs.Common.{refl}
use Rattle.gd_member.proofs.Standing.{stands_focused}
use Rattle.gd_reference.specs.World.{Focuses, after_line}
use Rattle.gd_member.proofs.member.Member.set_focus.Goals as goal

pub invariant_of-self : goal.invariant_of-self
invariant_of-self c live =
    let met = c.self.invariant (rw (← c.self.view_is) at c.requires) in (
      after_line met.0 (Focuses c.args.focus),
      met.1,
      stands_focused met.2 c.args.focus (c.set_focus.ensures.stands met.0 met.2.stands.site) refl refl live,
    )

pub returns-clause-answer : goal.returns-clause-answer
returns-clause-answer c slow written st =
    let s = rw (← c.self.view_is) at st in
    c.set_focus.ensures.answer slow s.stands.site

pub returns-clause-stands : goal.returns-clause-stands
returns-clause-stands c slow written st =
    let s = rw (← c.self.view_is) at st in
    stands_focused s c.args.focus (c.set_focus.ensures.stands slow s.stands.site) refl refl s.live
