use Rattle.std.proofs.Common.{◌+◌, ◌-◌, ◌*◌, ◌≤◌, length, None}
use Rattle.gd_snapshots.specs.SnapshotBytes.{all_kept_at, kept_at}
use Rattle.gd_snapshots.specs.Snapshots.{stamp_of}
use Rattle.gd_handover.proofs.LoopLemmas.{Looping}
use Rattle.gd_handover.proofs.parts.read_kept.Given as goal

abbrev pub invariant-each : goal.invariant-each
invariant-each g l = record {
  looping : Looping (kept_at l.known) stamp_of (all_kept_at l.known l.count None) l.count l.i l.last l.kept l.fn.reader
      l.reader (g.S.Source.seen l.initial.source) (g.S.Source.seen l.source);
  few : length l.reader.ahead ≤ 17 * (l.count - l.i);
  near : l.reader.place ≤ l.fn.reader.place + 1100 * l.i;
}
