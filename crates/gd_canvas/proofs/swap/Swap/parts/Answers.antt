use Rattle.std.proofs.Common.{◌∷◌, [], sym, ap, ◌∙◌}
use Rattle.std.specs.Prelude.{ℕ}
use Rattle.gd_canvas.proofs.SwapLemmas.{lone_part}
use Rattle.gd_canvas.proofs.swap.Swap.parts.Goals as goal

pub returns-in_default-clause-parts : goal.returns-in_default-clause-parts
returns-in_default-clause-parts c = λ stamp.
    c.one_part.ensures.parts ∙ ap (λ (p : ℕ). p ∷ []) (c.first_part.ensures stamp)
    ∙ sym (lone_part stamp c.args.self.now c.in_default.not-ToLooks)
