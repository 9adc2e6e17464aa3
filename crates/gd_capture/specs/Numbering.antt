-- The numbers of kept events. Those of a site are the last ones that are held of it, so each is numbered one above the
-- one of its site that comes before it.
use Rattle.std.specs.Prelude.{◌≡◌, ℕ, ◌+◌, ◌==◌, if◌then◌else◌, List, [], ◌∷◌, length}
use Rattle.gd_base.specs.Sites.{IsSite}
use Rattle.gd_base.specs.declared.ranges.TheConstants.{SITES}
use Rattle.gd_events.specs.Events.{Event}
use Rattle.gd_events.specs.Ops.{Op}
use Rattle.gd_reference.specs.SlowSite.{SlowSite, count}
use Rattle.gd_repair.specs.Repair.{Stamped}
use Rattle.gd_stable.specs.Heard.{of_site, put_at}

-- how many of these events are by the site
unfoldable pub tally : ℕ → List (Stamped Op) → ℕ
tally site [] = 0
tally site (e ∷ es) = tally site es + (if e.stamp.site == site then 1 else 0)

-- each event numbered one above the last number of its site
unfoldable pub numbered : List ℕ → List (Stamped Op) → List Event
numbered last [] = []
numbered last (e ∷ es) =
    record { stamp = e.stamp; number = of_site last e.stamp.site + 1; op = e.op }
    ∷ numbered (put_at last e.stamp.site (of_site last e.stamp.site + 1)) es

-- the number of each site is how many of its events are held
pub record AreCounts (slow : SlowSite) (numbers : List ℕ) : Type 0 where
  pub sized : length numbers ≡ SITES
  pub counted : (t : ℕ) → IsSite t → of_site numbers t ≡ count slow t
