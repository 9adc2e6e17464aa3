use Rattle.std.proofs.Common.{◌+◌, refl, arith}
use Rattle.gd_effects.proofs.Doing.{along_done, along_exit, along_from, along_then}
use Rattle.gd_world.proofs.InTurn.{said_from, said_last, said_next}
use Rattle.gd_world.proofs.rehearsing.say_all.Goals as goal

pub loop-reply-init : goal.loop-reply-init
loop-reply-init g c input journal link steps = along_from _ _ refl

pub returns-in_err-say : goal.returns-in_err-say
returns-in_err-say g c input journal link steps =
    let i = c.loop-reply.reply-index in
    along_exit _ (said_from (i + 1) c.args.replies.now) c.from_residual.ensures.1
    (c.loop-reply.invariant input journal link steps)
    (λ t. said_next i c.args.replies.now c.as_slice-reply-items.result.now c.reply-item.result
    c.as_slice-reply-items.ensures c.reply-item.is (omega arith))
    (c.in_err-say.ensures input journal link steps)

pub loop-reply-preserved : goal.loop-reply-preserved
loop-reply-preserved g c input journal link steps =
    let i = c.loop-reply.reply-index in
    along_then (said_from (i + 1) c.args.replies.now) (c.loop-reply.invariant input journal link steps)
    (λ t. said_next i c.args.replies.now c.as_slice-reply-items.result.now c.reply-item.result
    c.as_slice-reply-items.ensures c.reply-item.is (omega arith))
    (c.in_ok-say.ensures input journal link steps)

pub returns : goal.returns
returns g c input journal link steps =
    along_done _ (c.loop-reply.invariant input journal link steps)
    (λ t. said_last c.loop-reply.reply-index c.args.replies.now c.as_slice-reply-items.result.now
    c.as_slice-reply-items.ensures (omega arith))
