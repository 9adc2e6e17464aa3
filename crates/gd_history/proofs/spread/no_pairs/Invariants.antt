use Rattle.std.proofs.Common.{◌≡◌, [], replicate}
use Rattle.gd_history.proofs.spread.no_pairs.Given as goal

abbrev pub invariant-loop-at : goal.invariant-loop-at
invariant-loop-at l = l.sets.items ≡ replicate l._at []
