use Rattle.std.proofs.Common.{arith, subst, take, take_all, ◌++◌}
use Rattle.gd_member.proofs.Pieces.{added_more, none_more}
use Rattle.gd_member.specs.Unwritten.{AreUnwritten}
use Rattle.gd_member.proofs.unwritten.Unwritten.add_all.Goals as goal

pub loop-event-init : goal.loop-event-init
loop-event-init c written others are = none_more written others _ are

pub loop-event-preserved : goal.loop-event-preserved
loop-event-preserved c written others are =
    let events = c.args.events.now in
    let k = c.loop-event.event-index in
    added_more events k c.event-item.result _ written others _ (omega arith) c.event-item.is
    (c.add.ensures written (others ++ take k events)
    (c.in_ok-reserve.ensures.stays written (others ++ take k events) (c.loop-event.invariant written others are)))

pub returns : goal.returns
returns c written others are =
    subst (λ es. AreUnwritten written (others ++ es) c.loop-event.self)
    (take_all c.loop-event.event-index c.args.events.now (omega arith)) (c.loop-event.invariant written others are)
