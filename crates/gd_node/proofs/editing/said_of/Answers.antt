use Rattle.std.proofs.Common.{◌++◌, ◌∙◌, ap, arith}
use Rattle.gd_lines.specs.Replies.{reply_text}
use Rattle.gd_lines.specs.declared.reply.Reply.TheVariants as reply
use Rattle.gd_node.proofs.Hearing.{done_all, done_more}
use Rattle.gd_node.proofs.editing.said_of.Goals as goal

pub loop-event-init : goal.loop-event-init
loop-event-init c = c.new-said.ensures

pub loop-event-preserved : goal.loop-event-preserved
loop-event-preserved c =
    done_more c.args.events.now c.loop-event.event-index _ _ c.loop-event.said _ (omega arith) c.event-item.is
    c.loop-event.invariant
    (c.in_ok-add_done.ensures ∙ ap (λ id. c.loop-event.said ++ reply_text (reply.Done id)) c.stamp.ensures)

pub returns : goal.returns
returns c = done_all c.args.events.now c.loop-event.event-index c.loop-event.said _ (omega arith)
    c.loop-event.invariant c.in_ok-add_end.ensures
