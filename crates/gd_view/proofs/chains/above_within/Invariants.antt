use Rattle.std.proofs.Common.{◌-◌}
use Rattle.gd_model.specs.Board.{listed}
use Rattle.gd_slots.specs.Slots.{board_of}
use Rattle.gd_view.specs.Chains.{Within}
use Rattle.gd_view.proofs.ChainLemmas.{Followed}
use Rattle.gd_view.proofs.chains.above_within.Given as goal

abbrev pub invariant-loop-turn : goal.invariant-loop-turn
invariant-loop-turn l =
    Followed l.most (listed (board_of l.canvas)) l.fn.id l.fn.link (l.most - l.turn) l.sum l.below l.next
    × Within l.turn l.sum
