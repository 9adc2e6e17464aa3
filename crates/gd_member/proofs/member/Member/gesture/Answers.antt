use Rattle.std.proofs.Common.{refl, sym, subst}
use Rattle.gd_member.proofs.Judgings.{gesture_member}
use Rattle.gd_member.specs.Gestures.{asked_in}
use Rattle.gd_member.specs.Members.{IsLive, MemberValue}
use Rattle.gd_member.specs.Standing.{Stands}
use Rattle.gd_reference.specs.TakeBack.{after_gesture}
use Rattle.gd_member.proofs.member.Member.gesture.Goals as goal

pub carry_out-requires : goal.carry_out-requires
carry_out-requires g c =
    let met = c.self.invariant (subst IsLive (sym c.self.view_is) c.requires) in
    (met.0, met.2.stands.site)

pub returns-in-Ok : goal.returns-in-Ok
returns-in-Ok g c slow written stands =
    let inside = subst (λ (m : MemberValue). Stands slow written m) (sym c.self.view_is) stands in
    gesture_member inside _ (c.in-Ok.ensures slow written inside.others inside.stands inside.unwritten) inside.live

pub returns-in-Err : goal.returns-in-Err
returns-in-Err g c slow written stands =
    let inside = subst (λ (m : MemberValue). Stands slow written m) (sym c.self.view_is) stands in
    (refl, c.in-Err.ensures slow written inside.others inside.stands inside.unwritten)

pub invariant_of-self : goal.invariant_of-self
invariant_of-self g c live =
    let met = c.self.invariant live in
    let out = gesture_member met.2 _ (c.in-Ok.ensures met.0 met.1 met.2.others met.2.stands met.2.unwritten) live in
    (after_gesture met.0 (asked_in c.args.lines.now), met.1, out.stands)
