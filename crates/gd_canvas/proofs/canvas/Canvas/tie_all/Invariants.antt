use Rattle.std.proofs.Common.{◌≡◌, drop}
use Rattle.gd_slots.specs.Slots.{board_of, ids}
use Rattle.gd_model.specs.Board.{tie_all}
use Rattle.gd_canvas.proofs.canvas.Canvas.tie_all.Given as goal

abbrev pub invariant-loop-i : goal.invariant-loop-i
invariant-loop-i l = (board_of l.self ≡ tie_all (drop l.i l.ties) (board_of l.initial.self))
    × (ids l.self ≡ ids l.initial.self)
