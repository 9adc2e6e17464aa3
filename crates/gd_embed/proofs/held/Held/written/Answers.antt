use Rattle.std.proofs.Common.{ap, length, refl, sym, ◌∙◌}
use Rattle.gd_embed.proofs.held.Held.written.Goals as goal

pub returns-then-unwritten-count : goal.returns-then-unwritten-count
returns-then-unwritten-count c slow written st = (
  refl,
  λ others held same.
      c.if-unwritten-count.true (ap length (c.unwritten.ensures slow written others st held) ∙ sym same),
)

pub returns : goal.returns
returns c slow written st = (
  refl,
  (
    c.written.ensures slow written st,
    (
      refl,
      λ others held. sym c.if-unwritten-count.false ∙ ap length (c.unwritten.ensures slow written others st held),
    ),
  ),
)
