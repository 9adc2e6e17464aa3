use Rattle.std.proofs.Common.{ap, ◌∙◌}
use Rattle.gd_model.specs.Objects.{or_whole}
use Rattle.gd_canvas.proofs.PartLemmas.{parts_few}
use Rattle.gd_canvas.proofs.contents.look_parts.Goals as goal

pub returns-clause-few : goal.returns-clause-few
returns-clause-few c = parts_few c.args.looks.now c.or_whole.result.items
    (c.or_whole.ensures.parts ∙ ap or_whole c.set_parts.ensures)
