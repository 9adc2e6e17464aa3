use Rattle.std.proofs.Common.{length}
use Rattle.gd_node.proofs.Hearing.{HeardSoFar}
use Rattle.gd_node.proofs.arriving.hear_all.Given as goal

abbrev pub invariant-events : goal.invariant-events
invariant-events l = HeardSoFar l.fn.events l.fn.heard (length l.yielded) l.records l.fn.records l.said l.fn.said
