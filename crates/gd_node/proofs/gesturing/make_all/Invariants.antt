use Rattle.std.proofs.Common.{drop}
use Rattle.gd_node.proofs.Gestures.{SoFar}
use Rattle.gd_node.specs.Gesturing.{AreAsked}
use Rattle.gd_reference.specs.SlowSite.{SlowSite}
use Rattle.gd_site.specs.Sites.{StandsFor}
use Rattle.gd_takeback.specs.Making.{making}
use Rattle.gd_node.proofs.gesturing.make_all.Given as goal

abbrev pub invariant-loop-each : goal.invariant-loop-each
invariant-loop-each g l = record {
  ranged : AreAsked (drop l.each-index l.fn.asked);
  judged : (slow : SlowSite) → StandsFor slow l.fn.site
      → SoFar slow l.fn.asked (drop l.each-index l.fn.asked) (making l.site l.gesture) l.fn.said l.said l.fn.steps
      l.steps;
}
