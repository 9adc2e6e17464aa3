use Rattle.gd_capture.proofs.Numbering.{Counting}
use Rattle.gd_capture.proofs.kept.number_all.Given as goal

abbrev pub invariant-loop-place : goal.invariant-loop-place
invariant-loop-place l = Counting l.entries l.fn.numbers l.numbers l.place l.events
