use Rattle.std.proofs.Common.{◌≡◌, [], ◌∷◌, map, take}
use Rattle.gd_reference.specs.World.{World as SlowWorld}
use Rattle.gd_world.specs.Standing.{StandsFor}
use Rattle.gd_worlds.specs.Churn.{site_reply}
use Rattle.gd_world.proofs.churning.summing.standings.Given as goal

abbrev pub invariant-loop-before : goal.invariant-loop-before
invariant-loop-before l = (w : SlowWorld) → StandsFor w l.fn.world
    → l.replies ≡ map (site_reply w) (take l.before (1 ∷ 2 ∷ 3 ∷ 4 ∷ []))
