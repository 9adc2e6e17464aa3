use Rattle.gd_capture.proofs.Numbering.{TakingOff}
use Rattle.gd_capture.proofs.kept.take_off.Given as goal

abbrev pub invariant-loop-place : goal.invariant-loop-place
invariant-loop-place l = TakingOff l.entries l.fn.numbers l.numbers l.place
