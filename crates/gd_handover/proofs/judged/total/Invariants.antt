use Rattle.std.proofs.Common.{◌≡◌, ◌≤◌, ◌*◌, take}
use Rattle.std.specs.List.{sum_by}
use Rattle.gd_snapshots.specs.declared.known.Known.{Known}
use Rattle.gd_handover.proofs.judged.total.Given as goal

abbrev pub invariant-each : goal.invariant-each
invariant-each l = record {
  so_far : l.all ≡ sum_by (λ (k : Known). k.count) (take l.of-index l.known);
  few : l.all ≤ 65535 * l.of-index;
}
