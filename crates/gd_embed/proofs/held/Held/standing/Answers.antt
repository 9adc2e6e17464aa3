use Rattle.std.proofs.Common.{refl, subst}
use Rattle.gd_base.specs.declared.site_status.SiteStatus.{SiteStatus}
use Rattle.gd_embed.specs.Records.{StatusIs}
use Rattle.gd_embed.proofs.held.Held.standing.Goals as goal

pub returns : goal.returns
returns c slow written st =
    (refl, (refl, subst (λ (s : SiteStatus). StatusIs s c.of.result) (c.status.ensures slow written st) c.of.ensures))
