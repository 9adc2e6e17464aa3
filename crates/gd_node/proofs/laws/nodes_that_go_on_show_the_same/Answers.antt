use Rattle.gd_node.proofs.Ready.{well_after}
use Rattle.gd_node.specs.GoingOn.{site_of}
use Rattle.gd_protocol.proofs.NodeJournals.{goes-node}
use Rattle.gd_protocol.specs.Nodes as new
use Rattle.gd_node.proofs.laws.nodes_that_go_on_show_the_same.Goals as goal

pub returns-clause-both : goal.returns-clause-both
returns-clause-both c n m p q same =
    c.nodes_that_hold_the_same_show_the_same.ensures.sites (site_of n) (site_of m)
    (well_after n p) (well_after m q) same

pub returns-clause-new : goal.returns-clause-new
returns-clause-new c n m p q same =
    c.nodes_that_hold_the_same_show_the_same.ensures.sites (site_of n) (new.site_of m)
    (well_after n p) (goes-node m q).well same
