use Rattle.gd_protocol.proofs.PartedSites.{one_of_two}
use Rattle.gd_protocol.proofs.parting.one_of_two_that_differ_shows_it.Goals as goal

pub returns : goal.returns
returns c = one_of_two
