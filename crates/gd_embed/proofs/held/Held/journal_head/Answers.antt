use Rattle.std.proofs.Common.{refl, ◌∙◌}
use Rattle.gd_embed.proofs.Filling.{writes_as}
use Rattle.gd_embed.proofs.held.Held.journal_head.Goals as goal

pub returns : goal.returns
returns c slow written st = (
  refl,
  writes_as _ _ c.fill.result (c.as_slice.ensures.value ∙ c.journal_head.ensures slow written st) c.fill.ensures.fills
      c.fill.ensures.needed,
)
