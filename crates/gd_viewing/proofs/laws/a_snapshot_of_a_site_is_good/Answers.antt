use Rattle.gd_viewing.proofs.Good.{snapshot_good}
use Rattle.gd_viewing.proofs.laws.a_snapshot_of_a_site_is_good.Goals as goal

pub returns : goal.returns
returns c = snapshot_good
