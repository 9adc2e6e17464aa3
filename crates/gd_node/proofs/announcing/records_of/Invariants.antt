use Rattle.std.proofs.Common.{List, take}
use Rattle.gd_events.specs.Events.{Event}
use Rattle.gd_grammar.specs.Chains.{AreChains}
use Rattle.gd_grammar.specs.Drawings.{drawings}
use Rattle.gd_logs.specs.Written.{AreRecords}
use Rattle.gd_node.proofs.announcing.records_of.Given as goal

abbrev pub invariant-loop-event : goal.invariant-loop-event
invariant-loop-event l =
    (seen : List Event) → AreChains drawings l.log.chains seen
    → AreRecords drawings seen (take l.event-index l.events) l.records
