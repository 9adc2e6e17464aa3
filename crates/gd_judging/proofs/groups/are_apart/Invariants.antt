use Rattle.std.proofs.Common.{◌≡◌, drop, map}
use Rattle.gd_reference.specs.Judging.{are_apart}
use Rattle.gd_judging.proofs.groups.are_apart.Given as goal

abbrev pub invariant-loop-k : goal.invariant-loop-k
invariant-loop-k l = are_apart (map (λ n. n.id) (drop l.k l.fn.named)) ≡ are_apart (map (λ n. n.id) l.fn.named)
