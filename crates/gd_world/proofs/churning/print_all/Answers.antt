use Rattle.std.proofs.Common.{◌+◌, List, length, drop, get_or, sym, ◌∙◌, ap, arith}
use Rattle.std.proofs.lemmas.List.{take_all}
use Rattle.gd_effects.proofs.Doing.{does_as, does_exit, does_more, does_nothing, does_ok, does_then}
use Rattle.gd_lines.specs.declared.reply.Reply.{Reply}
use Rattle.gd_reference.specs.Said.{all_said}
use Rattle.gd_world.proofs.SaidAll.{said_more, said_split}
use Rattle.gd_world.proofs.churning.print_all.Goals as goal

pub loop-reply-init : goal.loop-reply-init
loop-reply-init g c input journal link steps = does_nothing _

pub loop-reply-preserved : goal.loop-reply-preserved
loop-reply-preserved g c input journal link steps =
    does_as
    (said_more c.args.replies.now c.loop-reply.reply-index c.reply-item.result c.as_slice.result.now
    (omega (arith, c.loop-reply-test.true, ap (λ (rs : List Reply). length rs) c.as_slice-reply-items.ensures))
    (c.reply-item.is ∙ ap (λ (rs : List Reply). get_or rs c.loop-reply.reply-index c.reply-item.result)
    c.as_slice-reply-items.ensures)
    (c.as_slice.ensures.text ∙ c.text.ensures))
    (does_then {v = tt} (c.loop-reply.invariant input journal link steps)
    (does_ok tt (c.in_ok-print.ensures.does input journal link steps)))

pub returns-in_err-print-clause-does : goal.returns-in_err-print-clause-does
returns-in_err-print-clause-does g c input journal link steps =
    does_as
    (said_split c.args.replies.now c.loop-reply.reply-index c.reply-item.result c.as_slice.result.now
    (omega (arith, c.loop-reply-test.true, ap (λ (rs : List Reply). length rs) c.as_slice-reply-items.ensures))
    (c.reply-item.is ∙ ap (λ (rs : List Reply). get_or rs c.loop-reply.reply-index c.reply-item.result)
    c.as_slice-reply-items.ensures)
    (c.as_slice.ensures.text ∙ c.text.ensures))
    (does_exit {U = Unit {0}} _ c.from_residual.ensures.1
    (does_then {v = tt} (c.loop-reply.invariant input journal link steps)
    (does_more (all_said (drop (c.loop-reply.reply-index + 1) c.args.replies.now))
    (c.in_err-print.ensures.does input journal link steps))))

pub returns-clause-does : goal.returns-clause-does
returns-clause-does g c input journal link steps =
    does_as
    (ap all_said (sym (take_all c.loop-reply.reply-index c.args.replies.now
    (omega (arith, c.loop-reply-test.false, ap (λ (rs : List Reply). length rs) c.as_slice-reply-items.ensures)))))
    (c.loop-reply.invariant input journal link steps)
