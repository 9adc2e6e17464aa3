-- The steps that a frame takes.
use Rattle.std.specs.Prelude.{◌≡◌, ℕ, ◌+◌, List, [], ◌++◌}
use Rattle.gd_base.specs.declared.verdict.Verdict.{Verdict}
use Rattle.gd_base.specs.declared.verdict.Verdict.TheVariants.{Taken}
use Rattle.gd_effects.specs.Effects.{Effect, cost}
use Rattle.gd_grammar.specs.FrameBytes.{Frame}
use Rattle.gd_reference.specs.Offers.{verdict}
use Rattle.gd_reference.specs.SiteEffects.{works_of}
use Rattle.gd_reference.specs.SlowSite.{SlowSite}

-- those of its events, where it is taken
abbrev pub works_by : SlowSite → Frame → Verdict → List Effect
works_by slow f Taken = works_of slow f.events
works_by slow f other = []

abbrev pub frame_works : SlowSite → Frame → List Effect
frame_works slow f = works_by slow f (verdict slow f)

-- the steps of a front of these effects were taken
pub record PaysFront (before : ℕ) (xs : List Effect) (after : ℕ) : Type 0 where
  pub front : List Effect
  pub back : List Effect
  pub split : xs ≡ front ++ back
  pub paid : after ≡ before + cost front
