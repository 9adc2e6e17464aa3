-- A node that goes on from a log keeps its site well, whatever lines and datagrams come.
use Rattle.gd_node.proofs.ReadLogs.{read_ruled}
use Rattle.gd_node.specs.GoingOn.{GoingOn, IsGoingOn, site_of}
use Rattle.gd_protocol.proofs.NodeJournals.{goes-run}
use Rattle.gd_protocol.specs.Sites.{IsWell}
use Rattle.gd_reference.specs.SlowSite.{resumed}
use Rattle.gd_site.proofs.Ruled.{well_resumed}

well_begun : (n : GoingOn) → IsGoingOn n → IsWell (resumed n.me n.sites n.session n.events)
unfolding resumed
well_begun n is =
    well_resumed n.me n.sites n.session n.events
    (read_ruled n.me n.sites n.session n.contents n.events is.contents is.read)

pub well_after : (n : GoingOn) → IsGoingOn n → IsWell (site_of n)
well_after n is =
    let begun = resumed n.me n.sites n.session n.events in
    (goes-run begun n.entries n.lines is.lines is.entries (well_begun n is)).well
