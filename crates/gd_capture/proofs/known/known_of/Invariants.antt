use Rattle.std.proofs.Common.{◌≡◌, length}
use Rattle.gd_reference.specs.SlowSite.{SlowSite}
use Rattle.gd_site.specs.Sites.{StandsFor}
use Rattle.gd_viewing.specs.Handing.{known_behind}
use Rattle.gd_capture.proofs.known.known_of.Given as goal

abbrev pub invariant-loop-before : goal.invariant-loop-before
invariant-loop-before l = record {
  told : (slow : SlowSite) → StandsFor slow l.fn.site → l.known ≡ known_behind slow 0 l.before;
  sized : length l.known ≡ l.before;
}
