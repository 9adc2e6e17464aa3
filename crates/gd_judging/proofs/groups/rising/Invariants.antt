use Rattle.std.proofs.Common.{◌≡◌, ◌+◌, drop, map, length, Some}
use Rattle.gd_judging.specs.Targets.{as_member, rising}
use Rattle.gd_judging.proofs.groups.rising.Given as goal

abbrev pub invariant-loop-place : goal.invariant-loop-place
invariant-loop-place l = record {
  sorted : rising (map as_member (drop l.place l.named)) ≡ Some l.sorted.items;
  left : length l.sorted.items + l.place ≡ length l.named;
}
