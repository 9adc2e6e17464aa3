use Rattle.gd_arriving.proofs.ArrivalLemmas.{all-above_none}
use Rattle.gd_arriving.proofs.arriving.arrived.Goals as goal

pub arrived_from-requires-clause-above : goal.arrived_from-requires-clause-above
arrived_from-requires-clause-above g c = all-above_none c.args.events
