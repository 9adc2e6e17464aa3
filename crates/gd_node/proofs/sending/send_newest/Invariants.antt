use Rattle.std.proofs.Common.{ℕ, ◌-◌}
use Rattle.gd_effects.specs.Done.{Along}
use Rattle.gd_effects.specs.Outside.{outside}
use Rattle.gd_node.specs.Calls.{TakesNone}
use Rattle.gd_outside.specs.Seen.{SeenSource, SeenSink, SeenJournal}
use Rattle.gd_reference.specs.SiteEffects.{tries_behind, try_with}
use Rattle.gd_reference.specs.SlowSite.{SlowSite}
use Rattle.gd_site.specs.Sites.{StandsFor}
use Rattle.gd_node.proofs.sending.send_newest.Given as goal

abbrev pub invariant-loop-before : goal.invariant-loop-before
invariant-loop-before g l = record {
  sends : (slow : SlowSite) → StandsFor slow l.fn.site
      → (input : SeenSource) (output : SeenSink) (journal : SeenJournal) (steps : ℕ)
      → Along (outside input output journal (g.N.Link.seen l.fn.link) steps)
      (tries_behind (try_with slow l.fn.count) 0 slow.sites)
      (outside input output journal (g.N.Link.seen l.link) steps)
      (tries_behind (try_with slow l.fn.count) l.before (slow.sites - l.before));
  takes : TakesNone (g.N.Link.seen l.fn.link) (g.N.Link.seen l.link);
}
