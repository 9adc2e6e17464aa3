use Rattle.std.proofs.Common.{◌≡◌, ◌≤◌, ◌++◌, drop, length}
use Rattle.std.specs.Prelude.{vec_capacity}
use Rattle.std.specs.FinMap as map_of
use Rattle.gd_slots.specs.Slots.{board_of}
use Rattle.gd_model.specs.Undoing.{old_ties}
use Rattle.gd_canvas.proofs.olds.push_olds.Given as goal

abbrev pub invariant-loop-tie : goal.invariant-loop-tie
invariant-loop-tie l =
    (l.olds.items ++ old_ties (drop l.tie-index l.ties) (map_of.get (board_of l.canvas))
    ≡ old_ties l.ties (map_of.get (board_of l.canvas)))
    × (length l.olds.items ≤ l.tie-index)
    × (vec_capacity l.olds ≡ vec_capacity l.initial.olds)
