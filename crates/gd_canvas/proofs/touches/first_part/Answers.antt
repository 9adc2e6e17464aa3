use Rattle.std.proofs.Common.{sym, ap, ◌∙◌}
use Rattle.gd_model.specs.Forms.{form}
use Rattle.gd_canvas.specs.declared.kept.Kept.{Kept}
use Rattle.gd_canvas.specs.Kept.{op_of}
use Rattle.gd_canvas.specs.Touches.{first_part}
use Rattle.gd_canvas.proofs.touches.first_part.Goals as goal

pub returns-in-Set : goal.returns-in-Set
returns-in-Set c = λ stamp.
    c.first_part.ensures stamp ∙ ap (λ (k : Kept). first_part (form stamp (op_of k))) (sym c.in-Set.is)
