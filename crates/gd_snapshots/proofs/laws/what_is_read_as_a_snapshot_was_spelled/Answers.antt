use Rattle.gd_snapshots.proofs.ExactSnapshot.{exact_snapshot}
use Rattle.gd_snapshots.proofs.laws.what_is_read_as_a_snapshot_was_spelled.Goals as goal

pub returns-clause-good : goal.returns-clause-good
returns-clause-good c = λ bytes x are e. (exact_snapshot.taken bytes x are e).sound

pub returns-clause-spelled : goal.returns-clause-spelled
returns-clause-spelled c = λ bytes x are e. (exact_snapshot.taken bytes x are e).text.is
