use Rattle.std.proofs.Common.{◌≡◌, ◌<◌, ◌≤◌}
use Rattle.gd_chunks.specs.Summed.{AreRaised}
use Rattle.gd_chunks.proofs.starts.raise_all.Given as goal

abbrev pub invariant-loop-at : goal.invariant-loop-at
invariant-loop-at l = record {
  from : l.from ≤ l.at;
  idle : l.to < l.from → l.at ≡ l.from;
  raised : AreRaised l.fn.numbers l.numbers l.from l.at;
}
