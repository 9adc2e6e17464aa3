use Rattle.std.proofs.Common.{◌-◌, ◌∙◌, ap, arith, subst}
use Rattle.gd_base.specs.Sites.{IsSite}
use Rattle.gd_base.specs.Stamps.{Stamp}
use Rattle.gd_stable.specs.Heard.{of_site, put_at}
use Rattle.gd_capture.proofs.Numbering.{taking_end, taking_more, taking_room, taking_start}
use Rattle.gd_capture.proofs.kept.take_off.Goals as goal

pub loop-place-init : goal.loop-place-init
loop-place-init c = taking_start c.args.entries.now c.args.numbers.now c.requires.sized

pub overflow_sub-number : goal.overflow_sub-number
overflow_sub-number c =
    let x = c.get.result.now in
    let site = c.site-site.ensures.value ∙ ap (λ (s : Stamp). s.site) c.stamp.ensures in
    let range = c.site-site.ensures.range in
    let is = subst (λ (s : Stamp). IsSite s.site) c.stamp.ensures (range.site_above, range.site_below) in
    let room = taking_room c.args.entries.now c.args.numbers.now c.loop-place.numbers c.loop-place.place
    c.loop-place.invariant x (omega arith) c.get.ensures is c.requires.room in
    omega (arith, room, c.of-number.ensures.number ∙ ap (of_site c.loop-place.numbers) site)

pub loop-place-preserved : goal.loop-place-preserved
loop-place-preserved c =
    let x = c.get.result.now in
    let numbers = c.loop-place.numbers in
    let site = c.site-site.ensures.value ∙ ap (λ (s : Stamp). s.site) c.stamp.ensures in
    let range = c.site-site.ensures.range in
    let is = subst (λ (s : Stamp). IsSite s.site) c.stamp.ensures (range.site_above, range.site_below) in
    let number = c.of-number.ensures.number ∙ ap (of_site numbers) site in
    let room = taking_room c.args.entries.now c.args.numbers.now numbers c.loop-place.place c.loop-place.invariant x
    (omega arith) c.get.ensures is c.requires.room in
    taking_more c.args.entries.now c.args.numbers.now numbers c.loop-place.place c.loop-place.invariant x (omega arith)
    c.get.ensures is room c.put.new.self
    (c.put.ensures ∙ (λ i. put_at numbers (site i) (number i - 1)))

pub returns-clause-sized : goal.returns-clause-sized
returns-clause-sized c = c.loop-place.invariant.sized

pub returns-clause-left : goal.returns-clause-left
returns-clause-left c =
    taking_end c.args.entries.now c.args.numbers.now c.loop-place.numbers c.loop-place.place c.loop-place.invariant
    (omega arith)
