use Rattle.std.proofs.Common.{refl}
use Rattle.gd_embed.proofs.Filling.{writes_as}
use Rattle.gd_embed.proofs.held.Held.unwritten.Goals as goal

pub returns : goal.returns
returns c slow written st = (
  refl,
  (
    c.place.ensures slow written st,
    λ others held.
        writes_as _ _ c.fill.result (c.unwritten.ensures slow written others st held) c.fill.ensures.fills
        c.fill.ensures.needed,
  ),
)
