use Rattle.gd_logs.proofs.BurstLemmas.{changed-found}
use Rattle.gd_logs.proofs.laws.changed_records_are_found.Goals as goal

pub returns : goal.returns
returns g c = λ kind laws. changed-found laws
