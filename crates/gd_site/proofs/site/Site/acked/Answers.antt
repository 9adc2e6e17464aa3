use Rattle.std.proofs.Common.{◌∙◌}
use Rattle.gd_site.proofs.Stands.{other_of}
use Rattle.gd_site.proofs.site.Site.acked.Goals as goal

pub returns-clause-slow : goal.returns-clause-slow
returns-clause-slow c =
    let other = rw (← c.self.view_is) at c.requires in
    rw (← c.self.view_is)
    (λ slow stands. c.acked.ensures ∙ stands.acks c.args.site (other_of slow _ stands c.args.site other))
