use Rattle.gd_site.proofs.Parting.{stored_site}
use Rattle.gd_site.proofs.site.Site.held_of.Goals as goal

pub at-requires-clause-below : goal.at-requires-clause-below
at-requires-clause-below c =
    let other = rw (← c.self.view_is) at c.requires in
    (stored_site _ c.self.invariant c.args.site other).1
