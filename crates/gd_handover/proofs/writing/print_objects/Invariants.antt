use Rattle.std.proofs.Common.{ℕ, map, length}
use Rattle.gd_outside.specs.Seen.{SeenSource, SeenJournal, SeenLink}
use Rattle.gd_effects.specs.Effects.{Print}
use Rattle.gd_effects.specs.Outside.{outside}
use Rattle.gd_effects.specs.Done.{Along}
use Rattle.gd_snapshots.specs.SnapshotBytes.{placed_bytes}
use Rattle.gd_handover.proofs.writing.print_objects.Given as goal

abbrev pub invariant-objects : goal.invariant-objects
invariant-objects g l =
    (input : SeenSource) (journal : SeenJournal) (link : SeenLink) (steps : ℕ)
    → Along (outside input (g.K.Sink.seen l.fn.output) journal link steps) (map Print (map placed_bytes l.fn.objects))
    (outside input (g.K.Sink.seen l.output) journal link steps) (map Print (map placed_bytes l.left))

abbrev pub decreases-objects : goal.decreases-objects
decreases-objects g l = length l.left
