use Rattle.std.proofs.Common.{length}
use Rattle.gd_handover.proofs.judged.+least_sure.Given as goal

abbrev pub decreases-least_sure : goal.decreases-least_sure
decreases-least_sure l = length l.known.now
