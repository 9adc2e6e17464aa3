use Rattle.std.proofs.Common.{◌++◌, ◌∙◌, ap, arith}
use Rattle.gd_base.specs.Stamps.{Stamp}
use Rattle.gd_lines.specs.Replies.{reply_text}
use Rattle.gd_lines.specs.declared.reply.Reply.TheVariants as reply
use Rattle.gd_member.proofs.Texts.{done_all_ok, done_more}
use Rattle.gd_member.proofs.lines.say_done.Goals as goal

pub loop-event-preserved : goal.loop-event-preserved
loop-event-preserved c =
    done_more c.args.said.now c.loop-event.said c.add.new.self c.args.events.now c.loop-event.event-index
    c.event-item.result _ (omega arith)
    c.event-item.is c.loop-event.invariant
    (c.in_ok-add.ensures ∙ ap (λ (id : Stamp). c.loop-event.said ++ reply_text (reply.Done id)) c.stamp.ensures)

pub returns : goal.returns
returns c =
    done_all_ok c.add-2.result c.args.said.now c.loop-event.said c.add-2.new.self c.args.events.now
    c.loop-event.event-index (omega arith)
    c.loop-event.invariant c.add-2.ensures
