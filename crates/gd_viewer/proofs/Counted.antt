-- How many events the sites made, and how many objects and held events there are at most.
use Rattle.std.proofs.Common.{◌≡◌, ℕ, zero, suc, ◌+◌, ◌*◌, ◌<◌, ◌≤◌, inl, inr, ap, arith}
use Rattle.std.proofs.lemmas.Bool.{cases_eq}
use Rattle.gd_reference.specs.PerSite.{put}
use Rattle.gd_protocol.proofs.Lists.{put_same, put_other}
use Rattle.gd_viewer.specs.Viewers.{counted_to}

pub counted_to-few : (count : ℕ → ℕ) (k : ℕ) → ((t : ℕ) → count t ≤ 65535) → counted_to count k ≤ k * 65535
unfolding counted_to
counted_to-few count zero few = omega arith
counted_to-few count (suc k) few = omega (arith, few (suc k), counted_to-few count k few)

module _ (count : ℕ → ℕ) (site : ℕ) where
  abbrev more : ℕ → ℕ
  more = put count site (count site + 1)

  -- the sites in front of it made as many as before
  counted_to-before : (k : ℕ) → k < site → counted_to more k ≡ counted_to count k
  unfolding counted_to
  counted_to-before zero before = omega arith
  counted_to-before (suc k) before =
      omega (
        arith,
        counted_to-before k (omega (arith, before)),
        put_other count site (count site + 1) (suc k)
            (omega (arith, before)),
      )

  -- where one of the sites made one more, all of them did
  pub counted_to-more : (k : ℕ) → 1 ≤ site → site ≤ k
      → counted_to (put count site (count site + 1)) k ≡ counted_to count k + 1
  unfolding counted_to
  counted_to-more zero low high = absurd (omega (arith, low, high))
  counted_to-more (suc k) low high =
      elim (cases_eq (suc k) site) [
        | inl here ↦ omega (
          arith,
          put_same count site (count site + 1) (suc k) here,
          counted_to-before k
              (omega (arith, here)),
          ap count here,
        )
        | inr apart ↦ omega (
          arith,
          put_other count site (count site + 1) (suc k) apart,
          counted_to-more k low
              (omega (arith, high, apart)),
        )
      ]
