use Rattle.std.proofs.Common.{sym, ap, ◌∙◌}
use Rattle.std.specs.Prelude.{slice_get}
use Rattle.gd_model.specs.Forms.{form}
use Rattle.gd_canvas.specs.declared.kept.Kept.{Kept}
use Rattle.gd_canvas.specs.Kept.{op_of}
use Rattle.gd_canvas.specs.Touches.{own_parts}
use Rattle.gd_canvas.proofs.touches.own_at.Goals as goal

pub returns-in-Set : goal.returns-in-Set
returns-in-Set c = λ stamp.
    c.part_at.ensures stamp ∙ ap (λ (k : Kept). slice_get (own_parts (form stamp (op_of k))) c.args.place) (sym c.in-Set.is)
