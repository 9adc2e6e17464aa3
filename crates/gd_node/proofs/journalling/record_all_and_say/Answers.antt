use Rattle.gd_effects.proofs.Doing.{does_exit, does_more, does_then}
use Rattle.gd_node.proofs.journalling.record_all_and_say.Goals as goal

pub returns-in_err-record_all-clause-does : goal.returns-in_err-record_all-clause-does
returns-in_err-record_all-clause-does g c slow es replies are said ruled has input link steps =
    does_exit _ c.from_residual.ensures.1
    (does_more _ (c.in_err-record_all.ensures.does slow es are ruled has input (g.K.Sink.seen c.args.output.now)
    link steps))

pub returns-clause-does : goal.returns-clause-does
returns-clause-does g c slow es replies are said ruled has input link steps =
    does_then (c.in_ok-record_all.ensures.does slow es are ruled has input (g.K.Sink.seen c.args.output.now) link steps)
    (c.print.ensures replies said input (g.J.Journal.seen c.record_all.new.journal) link steps)
