use Rattle.gd_history.proofs.Waited.{near-none}
use Rattle.gd_history.proofs.asked.Asked.new.Goals as goal

pub invariant_of-result : goal.invariant_of-result
invariant_of-result c = near-none c.new.result.keys 251
