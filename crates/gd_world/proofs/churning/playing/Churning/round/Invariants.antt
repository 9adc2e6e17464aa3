use Rattle.std.proofs.Common.{ℕ, ◌+◌, ◌*◌, fold, take}
use Rattle.gd_worlds.specs.Churn.{Churning, passages, passed}
use Rattle.gd_world.specs.Playing.{Follows}
use Rattle.gd_world.proofs.churning.playing.Churning.round.Given as goal

abbrev pub invariant-loop-passage : goal.invariant-loop-passage
invariant-loop-passage g l = (lines : ℕ) (c : Churning) (before : ℕ) → Follows lines c before l.fn.self l.fn.steps
    → Follows (lines + 2 * l.passage-index) (fold passed c (take l.passage-index passages)) before l.self l.steps
