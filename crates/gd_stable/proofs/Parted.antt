-- From how many sites it has parted, one site after the other.
use Rattle.std.proofs.Common.{◌≡◌, ◌∙◌, ℕ, suc, ◌+◌, ◌-◌, ◌<◌, ◌≤◌, List, Option, ap, arith, refl}
use Rattle.gd_reference.specs.SlowSite.{one_if_some}
use Rattle.gd_stable.specs.Partings.{parted_at, partings_behind}

-- so many were counted of the first sites
pub record Counting (partings : List (Option ℕ)) (sites index count : ℕ) : Type 0 where
  pub sums : count + partings_behind partings index (sites - index) ≡ partings_behind partings 0 sites
  pub few : count ≤ index

module _ (partings : List (Option ℕ)) (sites : ℕ) where
  pub counting_start : Counting partings sites 0 0
  counting_start =
      let whole : sites - 0 ≡ sites = omega arith in
      record { sums = omega (arith, ap (partings_behind partings 0) whole); few = omega arith }

  one-first : (site k : ℕ) → partings_behind partings site (suc k)
      ≡ one_if_some (parted_at partings (site + 1)) + partings_behind partings (site + 1) k
  unfolding partings_behind
  one-first site k = refl

  module _ (index count : ℕ) (h : Counting partings sites index count) where
    pub counting_more : index < sites → (one : ℕ) → one ≡ one_if_some (parted_at partings (index + 1)) → one ≤ 1
        → Counting partings sites (index + 1) (count + one)
    counting_more below one is small =
        let left : sites - index ≡ suc (sites - (index + 1)) = omega (arith, below) in
        let split = ap (partings_behind partings index) left ∙ one-first index (sites - (index + 1)) in
        record { sums = omega (arith, h.sums, split, is); few = omega (arith, h.few, small) }

    pub counting_end : sites ≤ index → count ≡ partings_behind partings 0 sites
    unfolding partings_behind
    counting_end over =
        let none : sites - index ≡ 0 = omega (arith, over) in
        let nothing : partings_behind partings index (sites - index) ≡ 0 = ap (partings_behind partings index) none in
        omega (arith, h.sums, nothing)
