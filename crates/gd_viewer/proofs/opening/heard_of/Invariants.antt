use Rattle.gd_viewer.proofs.Parts.{Hearing}
use Rattle.gd_viewer.proofs.opening.heard_of.Given as goal

abbrev pub invariant-sites : goal.invariant-sites
invariant-sites l = Hearing l.known l.index l.heard
