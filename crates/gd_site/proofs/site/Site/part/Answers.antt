use Rattle.gd_site.proofs.Parting.{parting_is_site, parting_stands, stored_site}
use Rattle.gd_site.proofs.site.Site.part.Goals as goal

pub put-requires : goal.put-requires
put-requires c =
    let other = rw (← c.self.view_is) at c.requires in
    stored_site _ c.self.invariant c.args.site other

pub invariant_of-self : goal.invariant_of-self
invariant_of-self c =
    let other = rw (← c.self.view_is) at c.requires in
    parting_is_site _ c.self.invariant c.args.site c.args.count other c.put.new.self c.put.ensures.partings
    c.put.ensures.sites

pub returns-clause-stands : goal.returns-clause-stands
returns-clause-stands c =
    let other = rw (← c.self.view_is) at c.requires in
    rw (← c.self.view_is)
    (parting_stands _ c.self.invariant c.args.site c.args.count other c.put.new.self c.put.ensures.partings)
