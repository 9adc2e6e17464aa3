-- Nodes that go on from a log, whoever wrote it: what one is handed, and its site once its run is over.
use Rattle.std.specs.Prelude.{◌≡◌, ℕ, List, Ok}
use Rattle.std.specs.List.{AllByRecursion}
use Rattle.gd_events.specs.Events.{Event}
use Rattle.gd_grammar.specs.Drawings.{log}
use Rattle.gd_grammar.specs.FieldBytes.{AreBytes}
use Rattle.gd_outside.specs.Seen.{Entry}
use Rattle.gd_reference.specs.NodeRun.{HeardLine, IsEntry, IsHeard, site_after}
use Rattle.gd_reference.specs.Rejoin.{node_header}
use Rattle.gd_reference.specs.SlowSite.{SlowSite, resumed}

-- a node's number, how many sites there are, the session, the bytes of its journal, the events that they are read as,
-- what its link gives, and its lines as they are heard
pub record GoingOn : Type 0 where
  pub me : ℕ
  pub sites : ℕ
  pub session : ℕ
  pub contents : List ℕ
  pub events : List Event
  pub entries : List Entry
  pub lines : List HeardLine

-- its site once the run is over
abbrev pub site_of : GoingOn → SlowSite
site_of n = site_after (resumed n.me n.sites n.session n.events) n.entries n.lines

-- the bytes are a log of its header with these events, and the datagrams and lines are in their ranges
pub record IsGoingOn (n : GoingOn) : Type 0 where
  pub contents : AreBytes n.contents
  pub read : log n.contents ≡ Ok (node_header n.me n.sites n.session, n.events)
  pub entries : AllByRecursion IsEntry n.entries
  pub lines : AllByRecursion IsHeard n.lines
