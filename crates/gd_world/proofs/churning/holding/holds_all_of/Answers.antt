use Rattle.std.proofs.Common.{ℕ, ◌==◌, length, ap₂, arith}
use Rattle.gd_base.proofs.SiteLemmas.{is_site-within}
use Rattle.gd_world.proofs.churning.holding.holds_all_of.Goals as goal

pub count-requires : goal.count-requires
count-requires c =
    rw c.site.ensures.sites
    (is_site-within (length c.args.world.now.members) c.args.maker c.requires.maker_from
    (omega (arith, c.requires.maker_to, c.requires.four)))

pub returns : goal.returns
returns c w stands =
    ap₂ (λ (held made : ℕ). held == made) (c.count.ensures (w.at c.args.site) (c.site.ensures.stands w stands))
    (c.made.ensures (w.at c.args.maker) (c.site-2.ensures.stands w stands))
