use Rattle.std.proofs.Common.{◌≡◌, ◌++◌, drop}
use Rattle.gd_view.specs.Levels.{level_of}
use Rattle.gd_view.proofs.LevelLemmas.{held}
use Rattle.gd_view.proofs.levels.levels.Given as goal

abbrev pub invariant-loop-place : goal.invariant-loop-place
invariant-loop-place l = l.levels.items ++ held level_of (drop l.place l.canvas) ≡ held level_of l.canvas
