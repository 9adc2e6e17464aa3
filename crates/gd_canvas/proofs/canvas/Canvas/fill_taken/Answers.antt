use Rattle.std.proofs.Common.{ap, ◌∙◌}
use Rattle.std.specs.FinMap as map_of
use Rattle.gd_base.specs.Whole.{Object}
use Rattle.gd_slots.specs.Slots.{board_of}
use Rattle.gd_model.specs.Objects.{own_ties}
use Rattle.gd_model.specs.Undoing.{old_ties}
use Rattle.gd_canvas.proofs.FormLemmas.{found_object}
use Rattle.gd_canvas.proofs.canvas.Canvas.fill_taken.Goals as goal

pub returns-in-Some-clause-olds : goal.returns-in-Some-clause-olds
returns-in-Some-clause-olds c = λ o is.
    let b = board_of c.args.self.now in
    let same = found_object c.get.result c.in-Some.object (map_of.get b c.args.id) o c.in-Some.is c.get.ensures is in
    c.fill_of.ensures.olds ∙ ap (λ (p : Object). old_ties (own_ties p.kind c.args.tied.now.ties) (map_of.get b)) same
