use Rattle.gd_snapshots.proofs.ByteLemmas.{snapshot-are}
use Rattle.gd_snapshots.proofs.laws.a_snapshot_is_bytes.Goals as goal

pub returns : goal.returns
returns c = snapshot-are
