use Rattle.std.proofs.Common.{◌≡◌, ◌≤◌, ◌++◌, drop, length}
use Rattle.std.specs.FinMap as map_of
use Rattle.gd_slots.specs.Slots.{board_of}
use Rattle.gd_model.specs.Undoing.{old_ties}
use Rattle.gd_canvas.proofs.canvas.Canvas.old_ties.Given as goal

abbrev pub invariant-loop-tie : goal.invariant-loop-tie
invariant-loop-tie l =
    let objects = map_of.get (board_of l.self) in
    (l.olds ++ old_ties (drop l.tie-index l.ties) objects ≡ old_ties l.ties objects) × (length l.olds ≤ l.tie-index)
