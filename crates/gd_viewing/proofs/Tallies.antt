-- How many events are held of each site, and of all sites.
use Rattle.std.proofs.Common.{◌≡◌, ℕ, zero, suc, ◌+◌, ◌<◌, ◌≤◌, Bool, true, false, List, [], ◌∷◌, length, refl, sym, ap}
use Rattle.std.proofs.Common.{◌∙◌, arith}
use Rattle.std.proofs.lemmas.List.Sums.{sum-map, sum_by-cons}
use Rattle.std.proofs.lemmas.Bool.{cond_both, eqb-false}
use Rattle.std.specs.List.{AllByRecursion as Every}
use Rattle.gd_base.specs.Sites.{is_site}
use Rattle.gd_base.specs.declared.ranges.TheConstants.{EVENTS_OF_A_SITE}
use Rattle.gd_base.proofs.Lists.{Every-weaker}
use Rattle.gd_base.proofs.SiteLemmas.{is_site-bounds}
use Rattle.gd_events.specs.Events.{Event}
use Rattle.gd_events.specs.Sound.{IsSound}
use Rattle.gd_protocol.specs.Kept.{IsChain}
use Rattle.gd_reference.specs.SlowSite.{SlowSite, is_by, made_by}
use Rattle.gd_snapshots.specs.Snapshots.{total}
use Rattle.gd_snapshots.specs.declared.known.Known.{Known}
use Rattle.gd_viewing.specs.Handing.{known_behind, known_by}

-- of so many sites behind one
unfoldable pub tally : List Event → ℕ → ℕ → ℕ
tally es site zero = 0
tally es site (suc k) = length (made_by (site + 1) es) + tally es (site + 1) k

total-cons : (k : Known) (ks : List Known) → total (k ∷ ks) ≡ k.count + total ks
total-cons k ks = sum-map (λ k. k.count) (k ∷ ks) ∙ sum_by-cons (λ k. k.count) k ks
    ∙ ap (λ (n : ℕ). k.count + n) (sym (sum-map (λ k. k.count) ks))

pub total-known : (slow : SlowSite) (site k : ℕ) → total (known_behind slow site k) ≡ tally slow.held site k
unfolding known_behind tally
total-known slow site zero = refl
total-known slow site (suc k) = total-cons (known_by slow (site + 1)) (known_behind slow (site + 1) k)
    ∙ ap (λ (n : ℕ). length (made_by (site + 1) slow.held) + n) (total-known slow (site + 1) k)

-- with one event more there are no fewer of any site
more_made : (site : ℕ) (e : Event) (es : List Event) → length (made_by site es) ≤ length (made_by site (e ∷ es))
unfolding made_by
more_made site e es = cond_both (is_by site e) (e ∷ made_by site es) (made_by site es)
    (λ (l : List Event). length (made_by site es) ≤ length l) (λ mine. omega arith) (λ other. omega arith)

its_made : (site : ℕ) (e : Event) (es : List Event) → is_by site e ≡ true
    → length (made_by site (e ∷ es)) ≡ suc (length (made_by site es))
unfolding made_by
its_made site e es mine = rw mine refl

more_in_all : (e : Event) (es : List Event) (site k : ℕ) → tally es site k ≤ tally (e ∷ es) site k
unfolding tally
more_in_all e es site zero = omega arith
more_in_all e es site (suc k) = omega (arith, more_made (site + 1) e es, more_in_all e es (site + 1) k)

-- and one more of its own
one_more : (e : Event) (es : List Event) (site k : ℕ) → site < e.stamp.site → e.stamp.site ≤ site + k
    → suc (tally es site k) ≤ tally (e ∷ es) site k
unfolding tally
one_more e es site zero low high = absurd (omega (arith, low, high))
one_more e es site (suc k) low high
    = go (is_by (site + 1) e) refl (λ further. one_more e es (site + 1) k further (omega (arith, high)))
  where
    go : (b : Bool) → is_by (site + 1) e ≡ b
        → (site + 1 < e.stamp.site → suc (tally es (site + 1) k) ≤ tally (e ∷ es) (site + 1) k)
        → suc (length (made_by (site + 1) es) + tally es (site + 1) k) ≤ length (made_by (site + 1) (e ∷ es))
        + tally (e ∷ es) (site + 1) k
    go true mine rest = omega (arith, its_made (site + 1) e es mine, more_in_all e es (site + 1) k)
    go false other rest =
        let apart = eqb-false e.stamp.site (site + 1) other in
        omega (arith, more_made (site + 1) e es, rest (omega (arith, low, apart)))

pub all_counted : (sites : ℕ) (es : List Event) → Every (λ e. is_site sites e.stamp.site ≡ true) es
    → length es ≤ tally es 0 sites
all_counted sites [] h = omega arith
all_counted sites (e ∷ es) h =
    let bounds = is_site-bounds sites e.stamp.site h.0 in
    omega (arith, one_more e es 0 sites (omega (arith, bounds.0)) (omega (arith, bounds.1)), all_counted sites es h.1)

-- ---- of one site

-- none is numbered above how many there are
pub numbered_within : (site n k : ℕ) (es : List Event) → IsChain site n k es → Every (λ e. e.number ≤ n + length es) es
numbered_within site n k [] h = tt
numbered_within site n k (e ∷ es) h = (
  omega (arith, h.1),
  Every-weaker _ _ (λ (f : Event) (le : f.number ≤ suc n + length es). omega (arith, le)) es
      (numbered_within site (suc n) e.stamp.clock es h.3),
)

-- there are no more than may be numbered
pub few_made : (site n k : ℕ) (es : List Event) → IsChain site n k es → Every IsSound es → n ≤ EVENTS_OF_A_SITE
    → n + length es ≤ EVENTS_OF_A_SITE
few_made site n k [] h sound few = omega (arith, few)
few_made site n k (e ∷ es) h sound few =
    omega (arith, few_made site (suc n) e.stamp.clock es h.3 sound.1 (omega (arith, h.1, sound.0.number_fits)))
