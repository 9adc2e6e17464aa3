-- From which sites a site has parted, and at which count of their events: a list in the order of the sites.
use Rattle.std.specs.Prelude.{ℕ, zero, suc, ◌+◌, ◌-◌, List, Option, None, Some, replicate, set, get_or}
use Rattle.gd_base.specs.declared.ranges.TheConstants.{SITES}
use Rattle.gd_reference.specs.SlowSite.{one_if_some}

abbrev pub no_partings : List (Option ℕ)
no_partings = replicate SITES None

-- at which count it has parted from a site, if it has; sites count from 1
abbrev pub parted_at : List (Option ℕ) → ℕ → Option ℕ
parted_at partings site = get_or partings (site - 1) None

-- the same once it has parted from a site at that count
abbrev pub with_parting : List (Option ℕ) → ℕ → ℕ → List (Option ℕ)
with_parting partings site count = set partings (site - 1) (Some count)

-- from how many of so many sites behind one it has parted
unfoldable pub partings_behind : List (Option ℕ) → ℕ → ℕ → ℕ
partings_behind partings site zero = 0
partings_behind partings site (suc k) =
    one_if_some (parted_at partings (site + 1)) + partings_behind partings (site + 1) k
