use Rattle.gd_snapshots.proofs.ExactSnapshot.{exact_snapshot}
use Rattle.gd_snapshots.proofs.laws.what_is_spelled_is_read_as_a_snapshot.Goals as goal

pub returns : goal.returns
returns c = exact_snapshot.written
