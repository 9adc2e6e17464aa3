use Rattle.gd_reference.specs.SlowSite.{SlowSite}
use Rattle.gd_site.specs.Sites.{StandsFor}
use Rattle.gd_world.proofs.Who.{AreUpTo}
use Rattle.gd_world.proofs.telling.who.Given as goal

abbrev pub invariant-loop-before : goal.invariant-loop-before
invariant-loop-before l = (slow : SlowSite) → StandsFor slow l.fn.site → AreUpTo slow l.before l.replies
