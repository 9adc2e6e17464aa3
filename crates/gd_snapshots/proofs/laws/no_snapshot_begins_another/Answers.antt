use Rattle.gd_snapshots.proofs.ExactSnapshot.{no-snapshot-prefix}
use Rattle.gd_snapshots.proofs.laws.no_snapshot_begins_another.Goals as goal

pub returns : goal.returns
returns c = no-snapshot-prefix
