use Rattle.std.proofs.Common.{◌≡◌, ◌+◌, ◌-◌, ◌*◌, ◌≤◌, length, None}
use Rattle.gd_snapshots.specs.SnapshotBytes.{objects_at, placed_at}
use Rattle.gd_snapshots.specs.Snapshots.{id_of}
use Rattle.gd_handover.proofs.LoopLemmas.{Looping}
use Rattle.gd_handover.proofs.parts.read_objects.Given as goal

abbrev pub invariant-each : goal.invariant-each
invariant-each g l = record {
  looping : Looping placed_at id_of (objects_at l.count None) l.count l.i l.last l.objects l.fn.reader l.reader
      (g.S.Source.seen l.initial.source) (g.S.Source.seen l.source);
  few : length l.reader.ahead ≤ 55 * (l.count - l.i) + 4;
  near : l.reader.place ≤ l.fn.reader.place + 2200 * l.i;
  long : length l.objects ≡ l.i;
}
