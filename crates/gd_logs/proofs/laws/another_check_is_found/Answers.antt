use Rattle.gd_logs.proofs.ClosingLemmas.{log-other}
use Rattle.gd_logs.proofs.laws.another_check_is_found.Goals as goal

pub returns : goal.returns
returns g c = λ kind laws. log-other laws
