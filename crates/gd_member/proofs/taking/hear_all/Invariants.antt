use Rattle.std.proofs.Common.{length}
use Rattle.gd_member.proofs.Hearing.{HeardSoFar}
use Rattle.gd_member.proofs.taking.hear_all.Given as goal

abbrev pub invariant-events : goal.invariant-events
invariant-events l = HeardSoFar l.fn.events l.fn.heard (length l.yielded) l.unwritten l.fn.unwritten l.said l.fn.said
