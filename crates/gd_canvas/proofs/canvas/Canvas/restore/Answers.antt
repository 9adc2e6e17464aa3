use Rattle.std.proofs.Common.{ap, ◌∙◌}
use Rattle.std.specs.FinMap as map_of
use Rattle.gd_slots.specs.Slots.{board_of}
use Rattle.gd_model.specs.declared.form.Form.TheVariants.{Puts}
use Rattle.gd_model.specs.Board.{board_with}
use Rattle.gd_model.specs.Objects.{own_ties}
use Rattle.gd_model.specs.Undoing.{old_ties}
use Rattle.gd_canvas.specs.Kept.{of_made}
use Rattle.gd_canvas.proofs.FormLemmas.{made_before}
use Rattle.gd_canvas.proofs.canvas.Canvas.restore.Goals as goal

pub returns-clause-board : goal.returns-clause-board
returns-clause-board c =
    let ties = c.ties.ensures.ties ∙ c.fill_of.ensures.ties in
    c.puts.ensures.board
    ∙ ap (λ ts. board_with (Puts c.args.id c.args.object ts) (board_of c.args.self.now)) ties

pub returns-clause-before : goal.returns-clause-before
returns-clause-before c =
    let b = board_of c.args.self.now in
    ap (of_made c.puts.result c.args.id) c.fill_of.ensures.olds
    ∙ made_before c.args.id (map_of.get b c.args.id)
    (old_ties (own_ties c.args.object.kind c.args.tied.now.ties) (map_of.get b)) c.puts.result c.puts.ensures.made
