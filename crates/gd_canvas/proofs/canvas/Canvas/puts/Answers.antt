use Rattle.std.proofs.Common.{not, sym, ap, ◌∙◌}
use Rattle.std.specs.Prelude.{is_some}
use Rattle.std.specs.FinMap as map_of
use Rattle.gd_slots.specs.Slots.{board_of}
use Rattle.gd_model.specs.Board.{tie_all}
use Rattle.gd_canvas.proofs.FormLemmas.{copied_some, puts-board, tie_all-there}
use Rattle.gd_canvas.proofs.canvas.Canvas.puts.Goals as goal

pub returns-clause-board : goal.returns-clause-board
returns-clause-board c =
    let b = board_of c.args.self.now in
    c.create.ensures.board
    ∙ puts-board c.args.id c.args.object c.args.ties.now b (board_of c.tie_all.new.self)
    (ap is_some (sym c.get.ensures) ∙ copied_some c.get.result ∙ sym c.if-is_some.ensures)
    (c.tie_all.ensures.board ∙ ap (λ ts. tie_all ts b) c.own_ties.ensures.ties)

pub returns-clause-made : goal.returns-clause-made
returns-clause-made c =
    c.create.ensures.made
    ∙ ap (λ b. not (map_of.contains_key b c.args.id)) c.tie_all.ensures.board
    ∙ ap not (tie_all-there c.own_ties.result.now (board_of c.args.self.now) c.args.id)
