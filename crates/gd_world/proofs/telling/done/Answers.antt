use Rattle.std.proofs.Common.{ap, arith}
use Rattle.gd_lines.specs.declared.reply.Reply.TheVariants as reply
use Rattle.gd_world.proofs.Items.{items_all, items_next}
use Rattle.gd_world.proofs.telling.done.Goals as goal

pub loop-event-init : goal.loop-event-init
loop-event-init c = c.new-replies.ensures

pub loop-event-preserved : goal.loop-event-preserved
loop-event-preserved c =
    items_next (λ e. reply.Done e.stamp) c.args.events.now c.loop-event.event-index c.loop-event.replies
    c.loop-event.invariant _ c.event-item.result _ (ap reply.Done c.stamp.ensures) c.event-item.is (omega arith)
    c.in_ok-push.ensures

pub returns-clause-ok : goal.returns-clause-ok
returns-clause-ok c =
    items_all (λ e. reply.Done e.stamp) c.args.events.now c.loop-event.event-index c.loop-event.replies
    c.loop-event.invariant _ (omega arith) c.in_ok-push-2.ensures
