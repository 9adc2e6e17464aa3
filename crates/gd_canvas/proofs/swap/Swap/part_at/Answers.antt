use Rattle.std.proofs.Common.{◌∷◌, [], List, sym, ap, ◌∙◌}
use Rattle.std.specs.Prelude.{ℕ, slice_get}
use Rattle.gd_canvas.proofs.SwapLemmas.{lone_part}
use Rattle.gd_canvas.proofs.swap.Swap.part_at.Goals as goal

pub returns-in_default : goal.returns-in_default
returns-in_default c = λ stamp.
    c.first_alone.ensures ∙ ap (λ (p : ℕ). slice_get (p ∷ []) c.args.place) (c.first_part.ensures stamp)
    ∙ ap (λ (ps : List ℕ). slice_get ps c.args.place)
    (sym (lone_part stamp c.args.self.now c.in_default.not-ToLooks))
