use Rattle.std.proofs.Common.{◌≡◌, ◌++◌, drop}
use Rattle.gd_view.proofs.LevelLemmas.{held}
use Rattle.gd_view.proofs.ids.ids.Given as goal

abbrev pub invariant-loop-place : goal.invariant-loop-place
invariant-loop-place l = l.ids.items ++ held (λ e. e.0) (drop l.place l.canvas) ≡ held (λ e. e.0) l.canvas
