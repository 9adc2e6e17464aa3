use Rattle.std.proofs.Common.{◌≡◌, ◌+◌, ◌∷◌, [], ◌++◌, ◌∙◌, ap, ap₂, arith, subst, sym}
use Rattle.gd_base.specs.Sites.{IsSite}
use Rattle.gd_base.specs.Stamps.{Stamp}
use Rattle.gd_events.specs.Events.{Event}
use Rattle.gd_events.specs.Sound.{IsOp}
use Rattle.gd_events.specs.Ops.{Op}
use Rattle.gd_history.proofs.Reworking.{admitted_here}
use Rattle.gd_repair.specs.Repair.{Stamped, stamped}
use Rattle.gd_stable.specs.Heard.{of_site, put_at}
use Rattle.gd_capture.proofs.Numbering.{counting_end, counting_more, counting_room}
use Rattle.gd_capture.proofs.kept.number_all.Goals as goal

pub overflow_add-number : goal.overflow_add-number
overflow_add-number c =
    let x = c.get-entry.result.now in
    let numbers = c.loop-place.numbers in
    let site = c.site-site.ensures.value ∙ ap (λ (s : Stamp). s.site) c.stamp-stamp.ensures in
    let range = c.site-site.ensures.range in
    let is = subst (λ (s : Stamp). IsSite s.site) c.stamp-stamp.ensures (range.site_above, range.site_below) in
    let room = counting_room c.args.entries.now c.args.numbers numbers c.loop-place.place c.loop-place.events
    c.loop-place.invariant x (omega arith) c.get-entry.ensures is in
    omega (arith, room, c.of-number.ensures.number ∙ ap (of_site numbers) site)

pub sound-requires-clause-op : goal.sound-requires-clause-op
sound-requires-clause-op c =
    let x = c.get-entry.result.now in
    let P = λ (e : Stamped Op). IsOp e.stamp e.op in
    subst P (ap₂ stamped (sym c.stamp-stamp.ensures) (sym c.in_ok-op.ensures))
    (admitted_here P c.args.entries.now c.loop-place.place x c.requires.sound (omega arith) c.get-entry.ensures)

pub loop-place-preserved : goal.loop-place-preserved
loop-place-preserved c =
    let x = c.get-entry.result.now in
    let numbers = c.loop-place.numbers in
    let stamp = c.stamp-stamp.ensures in
    let site = c.site-site.ensures.value ∙ ap (λ (s : Stamp). s.site) stamp in
    let range = c.site-site.ensures.range in
    let is = subst (λ (s : Stamp). IsSite s.site) stamp (range.site_above, range.site_below) in
    let number = c.of-number.ensures.number ∙ ap (of_site numbers) site in
    let op = c.in_ok-op.ensures in
    let event : c.sound.result
    ≡ record { stamp = x.stamp; number = of_site numbers x.stamp.site + 1; op = x.op } = c.sound.ensures
    ∙ (λ i. record { stamp = stamp i; number = number i + 1; op = op i }) in
    counting_more c.args.entries.now c.args.numbers numbers c.loop-place.place c.loop-place.events
    c.loop-place.invariant x (omega arith) c.get-entry.ensures is c.of-number.ensures.sized
    c.put.new.self (c.put.ensures ∙ (λ i. put_at numbers (site i) (number i + 1))) c.push.new.self
    (c.in_ok-push.ensures.ok ∙ ap (λ (e : Event). c.loop-place.events ++ e ∷ []) event)

pub returns : goal.returns
returns c = counting_end c.args.entries.now c.args.numbers c.loop-place.numbers c.loop-place.place c.loop-place.events
    c.loop-place.invariant (omega arith)
