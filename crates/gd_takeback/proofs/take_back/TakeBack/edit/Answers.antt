use Rattle.std.proofs.Common.{[], ◌∷◌, ap, ap₂, ◌∙◌}
use Rattle.gd_events.specs.Ops.{Op}
use Rattle.gd_reference.specs.Backs.{kept, with_gesture}
use Rattle.gd_reference.specs.TakeBack.{back_of}
use Rattle.gd_takeback.proofs.Deciding.{decided_is_own}
use Rattle.gd_takeback.proofs.Standing.{edit_stands}
use Rattle.gd_takeback.proofs.take_back.TakeBack.edit.Goals as goal

pub accept-requires : goal.accept-requires
accept-requires g c =
    decided_is_own c.args.site.now c.args.edit.now c.in_ok-event.event c.in_ok-event.ensures.decided

pub returns-clause-stands : goal.returns-clause-stands
returns-clause-stands g c slow stands =
    let e = c.in_ok-event.event in
    let one = c.in_ok-back-2.ensures ∙ ap (λ (op : Op). op ∷ []) (c.in_ok-back.ensures slow stands.site) in
    let undos = c.keep.ensures ∙ ap₂ kept one c.in_ok-reserve.ensures.gestures in
    edit_stands slow stands c.args.edit.now e c.requires (c.in_ok-event.ensures.slow slow stands.site)
    c.accept.new.self _
    (c.in_ok-accept.ensures.stands slow stands.site)
    ((λ i. record { undos = undos i; redos = c.clear.ensures i })
    ∙ ap (with_gesture (back_of slow e ∷ [])) c.self.view_is)
