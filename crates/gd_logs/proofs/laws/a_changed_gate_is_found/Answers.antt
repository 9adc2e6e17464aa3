use Rattle.gd_logs.proofs.WrittenLemmas.{log-neither}
use Rattle.gd_logs.proofs.laws.a_changed_gate_is_found.Goals as goal

pub returns : goal.returns
returns g c = λ kind laws. log-neither laws
