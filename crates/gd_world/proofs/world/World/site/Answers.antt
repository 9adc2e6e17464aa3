use Rattle.std.proofs.Common.{length}
use Rattle.gd_base.proofs.SiteLemmas.{is_site-within}
use Rattle.gd_world.proofs.Members.{site_counts, site_stands}
use Rattle.gd_world.proofs.Spent.{has_site}
use Rattle.gd_world.proofs.world.World.site.Goals as goal

pub returns-clause-stands : goal.returns-clause-stands
returns-clause-stands c w stands =
    site_stands _ c.args.self.now c.self.view_is c.args.site c.requires.from c.requires.to c.from.result c.from.ensures
    c.index.result.now c.index.ensures w stands

pub returns-clause-sites : goal.returns-clause-sites
returns-clause-sites c =
    let inside = is_site-within (length c.args.self.now.members) c.args.site c.requires.from c.requires.to in
    site_counts _ c.args.self.now c.self.view_is c.args.site c.requires.from c.requires.to c.from.result c.from.ensures
    c.index.result.now c.index.ensures
    (has_site _ c.args.self.now c.self.view_is c.args.site inside c.self.invariant)
