use Rattle.std.proofs.Common.{sym, ◌∙◌}
use Rattle.gd_effects.proofs.Doing.{does_as, does_nothing, does_then}
use Rattle.gd_node.proofs.Links.{takes_none_then}
use Rattle.gd_node.proofs.SlowFrames.{brought_from, lone_tries, self_tries, window_tries}
use Rattle.gd_node.proofs.sending.send_window.Goals as goal

pub returns-then-to-me-clause-sends : goal.returns-then-to-me-clause-sends
returns-then-to-me-clause-sends g c slow stands input output journal steps =
    does_as (self_tries slow c.args.senders.now c.args.to (c.if-to-me.true ∙ c.me.ensures.slow slow stands))
    (does_nothing _)

pub returns-then-not-has-clause-sends : goal.returns-then-not-has-clause-sends
returns-then-not-has-clause-sends g c slow stands input output journal steps =
    does_as
    (lone_tries slow c.args.senders.now c.args.to (λ e. c.if-to-me.false (e ∙ sym (c.me.ensures.slow slow stands)))
    (c.acked-acked.ensures.slow slow stands) c.has.ensures c.if-not-has.true)
    (c.send_behind-brought.ensures.sends slow stands input output journal steps)

pub returns-clause-sends : goal.returns-clause-sends
returns-clause-sends g c slow stands input output journal steps =
    let acked_is = c.acked-acked.ensures.slow slow stands in
    let brought_is = c.send_behind-brought.ensures.brought slow stands in
    does_as
    (window_tries slow c.args.senders.now c.args.to (λ e. c.if-to-me.false (e ∙ sym (c.me.ensures.slow slow stands)))
    acked_is c.has.ensures c.if-not-has.false brought_is)
    (does_then (c.send_behind-brought.ensures.sends slow stands input output journal steps)
    (does_then (c.send_further.ensures.sends slow stands input output journal steps)
    (c.send_again.ensures.sends slow stands acked_is (brought_is ∙ brought_from slow c.args.to acked_is) input output
    journal steps)))

pub returns-clause-takes : goal.returns-clause-takes
returns-clause-takes g c =
    takes_none_then c.send_behind-brought.ensures.takes
    (takes_none_then c.send_further.ensures.takes c.send_again.ensures.takes)
