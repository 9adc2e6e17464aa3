use Rattle.std.proofs.Common.{ℕ, ◌-◌, ◌≤◌}
use Rattle.gd_effects.specs.Done.{Along}
use Rattle.gd_effects.specs.Outside.{outside}
use Rattle.gd_node.specs.Calls.{TakesNone}
use Rattle.gd_outside.specs.Seen.{SeenSource, SeenSink, SeenJournal}
use Rattle.gd_reference.specs.Offers.{further_frames}
use Rattle.gd_reference.specs.SiteEffects.{tries_of}
use Rattle.gd_reference.specs.SlowSite.{SlowSite}
use Rattle.gd_site.specs.Sites.{StandsFor}
use Rattle.gd_stable.specs.Peers.{of_site}
use Rattle.gd_node.proofs.sending.send_further.Given as goal

abbrev pub invariant-loop-sent : goal.invariant-loop-sent
invariant-loop-sent g l = record {
  sends : (slow : SlowSite) → StandsFor slow l.fn.site
      → (input : SeenSource) (output : SeenSink) (journal : SeenJournal) (steps : ℕ)
      → Along (outside input output journal (g.N.Link.seen l.fn.link) steps)
      (tries_of l.fn.to (further_frames l.fn.most slow l.fn.to l.fn.start))
      (outside input output journal (g.N.Link.seen l.link) steps)
      (tries_of l.fn.to (further_frames (l.fn.most - l.sent) slow l.fn.to l.behind));
  takes : TakesNone (g.N.Link.seen l.fn.link) (g.N.Link.seen l.link);
  unacked : of_site l.fn.site.peers.acks l.fn.to ≤ l.behind;
}
