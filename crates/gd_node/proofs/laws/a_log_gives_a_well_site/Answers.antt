use Rattle.gd_node.proofs.ReadLogs.{read_ruled}
use Rattle.gd_node.proofs.Ready.{well_after}
use Rattle.gd_site.proofs.Ruled.{well_resumed}
use Rattle.gd_node.proofs.laws.a_log_gives_a_well_site.Goals as goal

pub returns-clause-begun : goal.returns-clause-begun
returns-clause-begun c me sites session contents events are read =
    well_resumed me sites session events (read_ruled me sites session contents events are read)

pub returns-clause-stays : goal.returns-clause-stays
returns-clause-stays c n is = well_after n is
