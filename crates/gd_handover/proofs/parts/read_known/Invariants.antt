use Rattle.std.proofs.Common.{◌≡◌, ◌+◌, ◌-◌, ◌*◌, ◌≤◌, length}
use Rattle.gd_snapshots.specs.SnapshotBytes.{all_known_at, in_view, nothing_of, of_a_site}
use Rattle.gd_handover.proofs.LoopLemmas.{Looping}
use Rattle.gd_handover.proofs.parts.read_known.Given as goal

abbrev pub invariant-each : goal.invariant-each
invariant-each g l = record {
  looping : Looping (λ last bytes. in_view (of_a_site last bytes)) nothing_of
      (λ bytes. in_view (all_known_at l.sites bytes)) l.sites l.i tt l.known l.fn.reader l.reader
      (g.S.Source.seen l.initial.source) (g.S.Source.seen l.source);
  few : length l.reader.ahead ≤ 8 * (l.sites - l.i) + 8;
  near : l.reader.place ≤ l.fn.reader.place + 1100 * l.i;
  long : length l.known ≡ l.i;
}
