use Rattle.std.proofs.Common.{◌∙◌, ap, arith}
use Rattle.gd_lines.specs.declared.reply.Reply.TheVariants as reply
use Rattle.gd_reference.specs.DrawingText.{item_replies}
use Rattle.gd_world.proofs.Items.{items_all, items_next}
use Rattle.gd_world.proofs.telling.show.Goals as goal

pub loop-item-init : goal.loop-item-init
loop-item-init c = c.new-replies.ensures

pub loop-item-preserved : goal.loop-item-preserved
loop-item-preserved c =
    items_next reply.Item c.as_slice-items.result.now c.loop-item.item-index c.loop-item.replies c.loop-item.invariant _
    c.item-item.result _ (ap reply.Item c.in_ok-shared.ensures) c.item-item.is (omega arith) c.in_ok-push.ensures

pub returns-clause-ok : goal.returns-clause-ok
returns-clause-ok c slow stands =
    items_all reply.Item c.as_slice-items.result.now c.loop-item.item-index c.loop-item.replies c.loop-item.invariant _
    (omega arith) c.in_ok-push-2.ensures
    ∙ ap item_replies (c.as_slice-items.ensures ∙ c.in_ok-picture.ensures slow stands)
