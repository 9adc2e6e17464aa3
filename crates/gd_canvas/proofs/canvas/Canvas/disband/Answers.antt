use Rattle.std.proofs.Common.{ap, ◌∙◌}
use Rattle.std.specs.FinMap as map_of
use Rattle.gd_slots.specs.Slots.{board_of}
use Rattle.gd_model.specs.declared.form.Form.TheVariants.{Takes}
use Rattle.gd_model.specs.Board.{board_with}
use Rattle.gd_canvas.specs.Kept.{of_taken}
use Rattle.gd_canvas.proofs.FormLemmas.{taken_before}
use Rattle.gd_canvas.proofs.canvas.Canvas.disband.Goals as goal

pub returns-clause-board : goal.returns-clause-board
returns-clause-board c =
    c.takes.ensures.board
    ∙ ap (λ ts. board_with (Takes c.args.id ts) (board_of c.args.self.now))
    (c.ties.ensures.ties ∙ c.fill_taken.ensures.ties)

pub returns-clause-before : goal.returns-clause-before
returns-clause-before c =
    let b = board_of c.args.self.now in
    ap (of_taken c.args.id c.fill_taken.new.tied.olds) c.takes.ensures.object
    ∙ taken_before c.args.id (map_of.get b c.args.id) c.args.tied.now.ties c.fill_taken.new.tied.olds (map_of.get b)
    c.fill_taken.ensures.olds
