use Rattle.std.proofs.Common.{ap, ◌∙◌}
use Rattle.std.specs.FinMap as map_of
use Rattle.gd_slots.specs.Slots.{board_of}
use Rattle.gd_model.specs.Undoing.{old_in}
use Rattle.gd_canvas.specs.Swaps.{stored}
use Rattle.gd_canvas.proofs.SwapLemmas.{stored_found}
use Rattle.gd_canvas.proofs.canvas.Canvas.apply_set.Goals as goal

pub returns-clause-before : goal.returns-clause-before
returns-clause-before c =
    let x = map_of.get (board_of c.args.self.now) c.args.id in
    c.keep.ensures.found
    ∙ ap (stored c.args.swap.now) (c.set-found.ensures.before ∙ ap (λ k. old_in k x) c.stored.ensures)
    ∙ stored_found c.args.stamp c.args.swap.now x
