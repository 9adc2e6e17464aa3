use Rattle.std.proofs.Common.{length, sym, ap, ◌∙◌}
use Rattle.gd_model.specs.Forms.{form}
use Rattle.gd_canvas.specs.declared.kept.Kept.{Kept}
use Rattle.gd_canvas.specs.Kept.{op_of}
use Rattle.gd_canvas.specs.Touches.{own_parts}
use Rattle.gd_canvas.proofs.touches.own_count.Goals as goal

pub returns-in-Set-clause-count : goal.returns-in-Set-clause-count
returns-in-Set-clause-count c = λ stamp.
    c.part_count.ensures.count stamp ∙ ap (λ (k : Kept). length (own_parts (form stamp (op_of k)))) (sym c.in-Set.is)
