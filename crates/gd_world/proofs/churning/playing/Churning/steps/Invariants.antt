use Rattle.std.proofs.Common.{ℕ, ◌+◌}
use Rattle.gd_worlds.specs.Churn.{Churning, stepped, times}
use Rattle.gd_world.specs.Playing.{Follows}
use Rattle.gd_world.proofs.churning.playing.Churning.steps.Given as goal

abbrev pub invariant-loop-done : goal.invariant-loop-done
invariant-loop-done g l = (lines : ℕ) (c : Churning) (before : ℕ) → Follows lines c before l.fn.self l.fn.steps
    → Follows (lines + l.done) (times l.done stepped c) before l.self l.steps
