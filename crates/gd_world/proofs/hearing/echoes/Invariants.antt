use Rattle.std.proofs.Common.{length}
use Rattle.gd_world.proofs.Echoed.{AreSaid}
use Rattle.gd_world.proofs.hearing.echoes.Given as goal

abbrev pub invariant-loop-event : goal.invariant-loop-event
invariant-loop-event l = AreSaid l.events l.heard (length l.yielded) l.replies
