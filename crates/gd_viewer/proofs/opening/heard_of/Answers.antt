use Rattle.gd_viewer.proofs.Parts.{hearing_end}
use Rattle.gd_viewer.proofs.opening.heard_of.Goals as goal

pub returns : goal.returns
returns c = hearing_end c.args.known.now _ c.sites.heard c.sites.invariant c.sites-test.false
