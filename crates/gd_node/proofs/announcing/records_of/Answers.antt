use Rattle.std.proofs.Common.{take_all, arith, subst}
use Rattle.gd_grammar.specs.Drawings.{drawings}
use Rattle.gd_logs.specs.Written.{AreRecords}
use Rattle.gd_node.proofs.Hearing.{records_more}
use Rattle.gd_node.proofs.announcing.records_of.Goals as goal

pub loop-event-init : goal.loop-event-init
loop-event-init c = c.new-records.ensures.none

pub loop-event-preserved : goal.loop-event-preserved
loop-event-preserved c seen chained =
    records_more c.args.events.now c.loop-event.event-index c.event-item.result _ seen c.loop-event.records _
    (omega arith)
    c.event-item.is (c.loop-event.invariant seen chained) (c.in_ok-add.ensures seen _)

pub returns : goal.returns
returns c seen chained =
    subst (λ es. AreRecords drawings seen es c.loop-event.records)
    (take_all c.loop-event.event-index c.args.events.now (omega arith)) (c.loop-event.invariant seen chained)
