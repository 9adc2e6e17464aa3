use Rattle.gd_reference.specs.SlowSite.{SlowSite}
use Rattle.gd_site.specs.Sites.{StandsFor}
use Rattle.gd_capture.proofs.Keeping.{CountedTo}
use Rattle.gd_capture.proofs.kept.counts_of.Given as goal

abbrev pub invariant-loop-before : goal.invariant-loop-before
invariant-loop-before l = (slow : SlowSite) → StandsFor slow l.fn.site → CountedTo slow l.numbers l.before
