use Rattle.std.proofs.Common.{sym, ap, ◌∙◌}
use Rattle.std.specs.Prelude.{is_some}
use Rattle.std.specs.FinMap as map_of
use Rattle.gd_slots.specs.Slots.{board_of}
use Rattle.gd_model.specs.Board.{tie_all}
use Rattle.gd_canvas.proofs.FormLemmas.{takes-tied, takes-kept, tied_found}
use Rattle.gd_canvas.proofs.canvas.Canvas.takes.Goals as goal

pub returns-clause-board : goal.returns-clause-board
returns-clause-board c =
    let b = board_of c.args.self.now in
    let found = c.in_ok-object.ensures.object in
    c.tie_all.ensures.board
    ∙ ap (λ ts. tie_all ts (board_of c.take.new.self))
    (tied_found c.in_ok-object.object (map_of.get b c.args.id) c.args.ties.now c.own_ties.result.now found
    c.own_ties.ensures.ties)
    ∙ takes-tied c.args.id c.args.ties.now b (board_of c.take.new.self) (ap is_some (sym found)) c.take.ensures.board

pub returns-in_err-object-clause-board : goal.returns-in_err-object-clause-board
returns-in_err-object-clause-board c =
    takes-kept c.args.id c.args.ties.now (board_of c.args.self.now) (board_of c.take.new.self)
    (ap is_some (sym c.in_err-object.ensures.object)) c.take.ensures.board
