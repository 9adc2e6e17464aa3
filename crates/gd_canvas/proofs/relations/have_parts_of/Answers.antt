use Rattle.std.proofs.Common.{ap, ◌∙◌}
use Rattle.gd_model.specs.Objects.{have_parts}
use Rattle.gd_canvas.proofs.relations.have_parts_of.Goals as goal

pub returns : goal.returns
returns c = λ s. c.have_parts.ensures
    ∙ ap (have_parts c.args.parts.now) (c.as_slice.ensures.value ∙ c.parts-others.ensures.parts s)
