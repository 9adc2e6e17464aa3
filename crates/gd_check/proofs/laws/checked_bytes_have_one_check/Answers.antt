use Rattle.gd_check.proofs.Checked.{checked_alike}
use Rattle.gd_check.proofs.laws.checked_bytes_have_one_check.Goals as goal

pub returns : goal.returns
returns c = checked_alike
