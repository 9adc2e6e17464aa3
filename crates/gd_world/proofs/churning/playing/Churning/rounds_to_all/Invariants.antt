use Rattle.std.proofs.Common.{ℕ, ◌+◌, ◌*◌}
use Rattle.gd_worlds.specs.Churn.{Churning, rounds_to_all}
use Rattle.gd_world.specs.Playing.{Follows}
use Rattle.gd_world.proofs.churning.playing.Churning.rounds_to_all.Given as goal

abbrev pub invariant-loop-done : goal.invariant-loop-done
invariant-loop-done g l = (lines : ℕ) (c : Churning) (before : ℕ) → Follows lines c before l.fn.self l.fn.steps
    → Follows (lines + 24 * l.done) (rounds_to_all l.done c) before l.self l.steps
