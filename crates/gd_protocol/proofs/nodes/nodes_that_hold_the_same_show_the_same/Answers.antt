use Rattle.std.proofs.Common.{fold, [], ap}
use Rattle.gd_events.proofs.SameEventsLemmas.{ordered-same}
use Rattle.gd_model.specs.Drawing.{applied}
use Rattle.gd_protocol.proofs.NodeJournals.{goes-node}
use Rattle.gd_protocol.proofs.WellSites.{well_distinct}
use Rattle.gd_protocol.specs.Nodes.{site_of}
use Rattle.gd_reference.specs.DrawingText.{text}
use Rattle.gd_protocol.proofs.nodes.nodes_that_hold_the_same_show_the_same.Goals as goal

pub returns-clause-nodes : goal.returns-clause-nodes
returns-clause-nodes c n m p q same =
    ap (λ all. text (fold applied [] all)) (ordered-same (site_of n).held (site_of m).held
    (well_distinct (site_of n) (goes-node n p).well) (well_distinct (site_of m) (goes-node m q).well) same)

pub returns-clause-sites : goal.returns-clause-sites
returns-clause-sites c s t p q same =
    ap (λ all. text (fold applied [] all)) (ordered-same s.held t.held (well_distinct s p) (well_distinct t q) same)
