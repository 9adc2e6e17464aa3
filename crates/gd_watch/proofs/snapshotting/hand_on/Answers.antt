use Rattle.std.proofs.Common.{ℕ, map, sym, ap}
use Rattle.gd_outside.specs.declared.end.End.TheVariants.{NoMemory}
use Rattle.gd_effects.specs.Effects.{Print}
use Rattle.gd_effects.proofs.Doing.{does_as, does_exit, does_then, does_works}
use Rattle.gd_snapshots.specs.SnapshotBytes.{snapshot_pieces}
use Rattle.gd_snapshots.specs.Snapshots.{Snapshot}
use Rattle.gd_viewing.specs.Handing.{snapshot_of}
use Rattle.gd_viewing.specs.Snapshotting.{site_of}
use Rattle.gd_watch.specs.Capturing.{steps_of}
use Rattle.gd_reading.proofs.ReaderLemmas.{some_arrived}
use Rattle.gd_watch.proofs.snapshotting.hand_on.Goals as goal

pub returns-in_err-snapshot-clause-does : goal.returns-in_err-snapshot-clause-does
returns-in_err-snapshot-clause-does g c = λ input journal link.
    let slow = site_of c.args.header.now c.args.events.now in
    does_exit c.from_residual.result c.from_residual.ensures.1
    (some_arrived (steps_of slow) (g.K.Sink.seen c.args.output.now) c.in_err-snapshot.ensures.err_steps
    (map Print (snapshot_pieces (snapshot_of slow))) input journal link)

pub returns-clause-does : goal.returns-clause-does
returns-clause-does g c = λ input journal link.
    let slow = site_of c.args.header.now c.args.events.now in
    does_then {T = ℕ} (does_works 0 (steps_of slow) input (g.K.Sink.seen c.args.output.now) journal link _ _
    c.in_ok-snapshot.ensures.steps)
    (does_as (ap (λ (s : Snapshot). map Print (snapshot_pieces s)) (sym c.in_ok-snapshot.ensures.snapshot))
    (c.write_snapshot.ensures.does input journal link c.capture.new.steps))

pub returns-clause-silent : goal.returns-clause-silent
returns-clause-silent g c = λ e. absurd (let k = c.write_snapshot.ensures.end NoMemory e in cc)
