use Rattle.std.proofs.Common.{◌-◌, refl, arith}
use Rattle.std.proofs.Math.ListN.{get_or}
use Rattle.gd_view.proofs.WalkLemmas.{linked_none, linked_more}
use Rattle.gd_view.proofs.walk.link_up.Goals as goal

pub loop-place-init : goal.loop-place-init
loop-place-init c = linked_none c.args.items.now _ c.new-firsts.result c.in_ok-next.next.items refl c.new-firsts.ensures
    c.in_ok-next.ensures.items

pub loop-place-preserved : goal.loop-place-preserved
loop-place-preserved c =
    let item = c.index-items-place.result in
    linked_more c.loop-place.invariant (c.loop-place.place - 1) item c.put.new.self c.in_ok-later.later
    (get_or c.args.items.now (c.loop-place.place - 1) item).parent c.push.new.self.items
    (omega (arith, c.loop-place-test.true))
    (omega (arith, c.loop-place-test.true, c.loop-place.auto.place))
    refl
    c.in_ok-later.ensures.old
    c.in_ok-later.ensures.new
    c.in_ok-push.ensures.items
