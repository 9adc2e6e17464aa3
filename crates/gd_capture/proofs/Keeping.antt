-- The kept events of a site are the last ones that are held of it, and so have the numbers up to how many are held.
use Rattle.std.proofs.Common.{◌≡◌, ◌≢◌, ℕ, suc, ◌+◌, ◌-◌, ◌<◌, ◌≤◌, ◌==◌, Bool, true, false, cond, List, [], ◌∷◌, ◌++◌}
use Rattle.std.proofs.Common.{length, filter, refl, sym, ap, ◌∙◌, subst, arith, nat_le, length-append, ne_eqb, eqb-true}
use Rattle.std.proofs.lemmas.Bool.{eqb-false, false_from_ne_true, leb-false, leb-true}
use Rattle.std.proofs.lemmas.List.{get_or-replicate}
use Rattle.std.specs.List.{AllByRecursion as Every}
use Rattle.gd_base.specs.Sites.{IsSite, is_site}
use Rattle.gd_base.specs.Stamps.{is_before}
use Rattle.gd_base.specs.declared.ranges.TheConstants.{EVENTS_OF_A_SITE, SITES}
use Rattle.gd_base.proofs.Lists.{Every-weaker}
use Rattle.gd_base.proofs.SiteLemmas.{is_site-bounds}
use Rattle.gd_base.proofs.StampOrder.{is_before-clocks}
use Rattle.gd_capture.proofs.Numbering.{put_other, put_same, put_sized}
use Rattle.gd_capture.specs.Numbering.{AreCounts, numbered, tally}
use Rattle.gd_events.proofs.OrderLemmas.{InOrder, NoneBefore}
use Rattle.gd_events.specs.Events.{Event}
use Rattle.gd_events.specs.Ordered.{ordered}
use Rattle.gd_events.specs.Sound.{IsSound}
use Rattle.gd_model.specs.Arrivals.{all_drawn}
use Rattle.gd_protocol.proofs.Chains.{IsChain-above, IsChain-back, last_clock_from, made_by-first}
use Rattle.gd_protocol.proofs.Drawn.{every-ordered}
use Rattle.gd_protocol.proofs.Members.{every_made_by}
use Rattle.gd_protocol.specs.Kept.{IsChain}
use Rattle.gd_protocol.specs.Sites.{IsWell}
use Rattle.gd_reference.specs.SlowSite.{SlowSite, count, is_by, kept, line, made_by}
use Rattle.gd_stable.specs.Heard.{of_site, put_at, zeros}
use Rattle.gd_viewing.proofs.Lists.{Every-filter, filter-swap}
use Rattle.gd_viewing.proofs.Sides.{filter-ordered, is_high, is_low, ordered-same, split}
use Rattle.gd_viewing.proofs.Tallies.{few_made}

-- ---- events of one site

pub tally-made : (t : ℕ) (es : List Event) → tally t (all_drawn es) ≡ length (made_by t es)
unfolding tally made_by
tally-made t [] = refl
tally-made t (e ∷ es) = go (e.stamp.site == t) (tally-made t es)
  where
    go : (b : Bool) → tally t (all_drawn es) ≡ length (made_by t es)
        → tally t (all_drawn es) + cond b 1 0 ≡ length (cond b (e ∷ made_by t es) (made_by t es))
    go true h = omega (arith, h)
    go false h = omega (arith, h)

made_by-other : (t : ℕ) (e : Event) (es : List Event) → e.stamp.site ≢ t → made_by t (e ∷ es) ≡ made_by t es
unfolding made_by
made_by-other t e es apart = rw (ne_eqb e.stamp.site t apart) refl

-- a site that isn't of the session made none of these
none_outside : (sites t : ℕ) (es : List Event) → Every (λ e. is_site sites e.stamp.site ≡ true) es → sites < t
    → length (made_by t es) ≡ 0
unfolding made_by
none_outside sites t [] h above = refl
none_outside sites t (e ∷ es) h above =
    let bounds = is_site-bounds sites e.stamp.site h.0 in
    let apart : e.stamp.site ≢ t = λ same. omega (arith, same, bounds.1, above) in
    ap (λ (l : List Event). length l) (made_by-other t e es apart) ∙ none_outside sites t es h.1 above

none_before : (e : Event) (es : List Event) → Every (λ f. e.stamp.clock < f.stamp.clock) es → NoneBefore e es
none_before e [] h = tt
none_before e (f ∷ fs) h =
    let later : e.stamp.clock < f.stamp.clock = h.0 in (
      false_from_ne_true (is_before f.stamp e.stamp)
          (λ first. omega (arith, later, is_before-clocks f.stamp e.stamp first)),
      none_before e fs h.1,
    )

chain_order : (site n k : ℕ) (es : List Event) → IsChain site n k es → InOrder es
chain_order site n k [] h = tt
chain_order site n k (e ∷ es) h
    = (
      none_before e es (IsChain-above site (suc n) e.stamp.clock es h.3),
      chain_order site (suc n) e.stamp.clock es
          h.3,
    )

-- ---- the kept events of one site

-- they go on where so many others of its events end
pub record Back (slow : SlowSite) (t : ℕ) : Type 0 where
  pub before : ℕ
  pub clock : ℕ
  pub chain : IsChain t before clock (made_by t (kept slow))
  pub counts : before + length (made_by t (kept slow)) ≡ count slow t

module _ (slow : SlowSite) (well : IsWell slow) where
  order : (t : ℕ) → InOrder (made_by t slow.held)
  order t = chain_order t 0 0 (made_by t slow.held) (well.chains t)

  kept_by : (t : ℕ) → made_by t (kept slow) ≡ filter (is_high (line slow)) (made_by t slow.held)
  unfolding made_by
  kept_by t =
      filter-swap (is_by t) (is_high (line slow)) (ordered slow.held)
      ∙ ap (filter (is_high (line slow)))
      (filter-ordered (is_by t) slow.held ∙ ordered-same (filter (is_by t) slow.held) (order t))

  pub back : (t : ℕ) → Back slow t
  back t =
      let n = line slow in
      let all = made_by t slow.held in
      let low = filter (is_low n) all in
      let high = filter (is_high n) all in
      let parts : all ≡ low ++ high = split n all (order t) in
      let none : 0 + length low ≡ length low = omega arith in
      let chain = subst (λ (m : ℕ). IsChain t m (last_clock_from 0 low) high) none
      (IsChain-back t 0 0 low high (subst (IsChain t 0 0) parts (well.chains t))) in
      record {
        before = length low;
        clock = last_clock_from 0 low;
        chain = subst (IsChain t (length low) (last_clock_from 0 low)) (sym (kept_by t)) chain;
        counts = let all_of = ap (λ (l : List Event). length l) parts
            ∙ length-append low high in let its = ap (λ (l : List Event). length l) (kept_by t)
            in omega (arith, all_of, its);
      }

  pub tally_few : (t : ℕ) → tally t (all_drawn (kept slow)) ≤ count slow t
  tally_few t = let b = back t in omega (arith, b.counts, tally-made t (kept slow))

  pub count_fits : (t : ℕ) → count slow t ≤ EVENTS_OF_A_SITE
  count_fits t = let few
      = few_made t 0 0 (made_by t slow.held) (well.chains t) (every_made_by IsSound t slow.held well.sound)
      (omega arith) in omega (arith, few)

  pub count_outside : (t : ℕ) → slow.sites < t → count slow t ≡ 0
  count_outside t above = none_outside slow.sites t slow.held well.by_members above

  pub kept_sites : Every (λ e. IsSite e.stamp.site) (kept slow)
  kept_sites =
      Every-filter (λ e. IsSite e.stamp.site) (is_high (line slow)) (ordered slow.held)
      (every-ordered (λ e. IsSite e.stamp.site) slow.held
      (Every-weaker IsSound (λ e. IsSite e.stamp.site) (λ (e : Event) s. (s.stamp.site_above, s.stamp.site_below))
      slow.held well.sound))

-- ---- numbered on from what isn't kept

abbrev Chains : List ℕ → List Event → Type 0
Chains numbers es = (t : ℕ) → IsSite t → (k : ℕ) × IsChain t (of_site numbers t) k (made_by t es)

-- the first one is numbered one above its site's number, and the others go on from there
module _ (numbers : List ℕ) (sized : length numbers ≡ SITES) (e : Event) (es : List Event) (site : IsSite e.stamp.site)
    (chains : Chains numbers (e ∷ es)) where
  abbrev s : ℕ
  s = e.stamp.site

  mine : IsChain s (of_site numbers s) (chains s site).0 (e ∷ made_by s es)
  mine = subst (IsChain s (of_site numbers s) (chains s site).0) (made_by-first e es) (chains s site).1

  first_number : e.number ≡ of_site numbers s + 1
  first_number = let number = mine.1 in omega (arith, number)

  abbrev next : List ℕ
  next = put_at numbers s (of_site numbers s + 1)

  next_chains : Chains next es
  next_chains t is = by (t == s) refl
    where
      by : (b : Bool) → (t == s) ≡ b → (k : ℕ) × IsChain t (of_site next t) k (made_by t es)
      by true same =
          let at : t ≡ s = eqb-true t s same in
          let last : suc (of_site numbers s)
          ≡ of_site next s = omega (arith, put_same numbers s (of_site numbers s + 1) sized site) in
          subst (λ (u : ℕ). (k : ℕ) × IsChain u (of_site next u) k (made_by u es)) (sym at)
          (e.stamp.clock, subst (λ (n : ℕ). IsChain s n e.stamp.clock (made_by s es)) last mine.3)
      by false other =
          let apart : t ≢ s = eqb-false t s other in
          let front = (chains t is).0 in
          let its = subst (IsChain t (of_site numbers t) front) (made_by-other t e es (λ at. apart (sym at)))
          (chains t is).1 in (
            front,
            subst (λ (n : ℕ). IsChain t n front (made_by t es))
                (sym (put_other numbers s (of_site numbers s + 1) t site is apart)) its,
          )

numbered_on : (numbers : List ℕ) (es : List Event) → length numbers ≡ SITES → Every (λ e. IsSite e.stamp.site) es
    → Chains numbers es → numbered numbers (all_drawn es) ≡ es
unfolding numbered
numbered_on numbers [] sized sites chains = refl
numbered_on numbers (e ∷ es) sized sites chains =
    let site = sites.0 in
    let number = first_number numbers sized e es site chains in
    let rest = numbered_on (next numbers sized e es site chains) es
    (put_sized numbers e.stamp.site (of_site numbers e.stamp.site + 1) sized) sites.1
    (next_chains numbers sized e es site chains) in
    λ i. record { stamp = e.stamp; number = sym number i; op = e.op } ∷ rest i

-- ---- of a site

-- numbered on from how many aren't kept, these are the kept events
pub kept_numbered : (slow : SlowSite) → IsWell slow → (numbers left : List ℕ) → AreCounts slow numbers
    → length left ≡ SITES
    → ((t : ℕ) → IsSite t → of_site left t + tally t (all_drawn (kept slow)) ≡ of_site numbers t)
    → numbered left (all_drawn (kept slow)) ≡ kept slow
kept_numbered slow well numbers left counts sized takes =
    numbered_on left (kept slow) sized (kept_sites slow well)
    (λ t is.
    let b = back slow well t in
    let at : b.before ≡ of_site left t
    = omega (arith, takes t is, counts.counted t is, b.counts, tally-made t (kept slow)) in
    (b.clock, subst (λ (n : ℕ). IsChain t n b.clock (made_by t (kept slow))) at b.chain))

-- ---- how many are held of each site

-- the sites up to that one are counted
pub record CountedTo (slow : SlowSite) (numbers : List ℕ) (to : ℕ) : Type 0 where
  pub sized : length numbers ≡ SITES
  pub low : (t : ℕ) → IsSite t → t ≤ to → of_site numbers t ≡ count slow t
  pub high : (t : ℕ) → IsSite t → to < t → of_site numbers t ≡ 0

pub counted_none : (slow : SlowSite) → CountedTo slow zeros 0
counted_none slow = record {
  sized = refl;
  low = λ t is small. absurd (let from = is.0 in omega (arith, small, from));
  high = λ t is above. let to = is.1 in get_or-replicate 16 (t - 1) 0 0 (omega (arith, above, to));
}

pub counted_more : (slow : SlowSite) (numbers : List ℕ) (to : ℕ) → CountedTo slow numbers to → IsSite (to + 1)
    → (value : ℕ) → value ≡ count slow (to + 1) → (new : List ℕ) → new ≡ put_at numbers (to + 1) value
    → CountedTo slow new (to + 1)
counted_more slow numbers to h is value reads new puts = record {
  sized = ap (λ (l : List ℕ). length l) puts ∙ put_sized numbers (to + 1) value h.sized;
  low = λ t site small. by t site small (t == to + 1) refl;
  high = λ t site above. ap (λ (l : List ℕ). of_site l t) puts
      ∙ put_other numbers (to + 1) value t is site (λ same. omega (arith, same, above))
      ∙ h.high t site (omega (arith, above));
}
  where
    by : (t : ℕ) → IsSite t → t ≤ to + 1 → (b : Bool) → (t == to + 1) ≡ b → of_site new t ≡ count slow t
    by t site small true same =
        let at : t ≡ to + 1 = eqb-true t (to + 1) same in
        let here : of_site new (to + 1) ≡ count slow (to + 1) = ap (λ (l : List ℕ). of_site l (to + 1)) puts
        ∙ put_same numbers (to + 1) value h.sized is ∙ reads in
        subst (λ (u : ℕ). of_site new u ≡ count slow u) (sym at) here
    by t site small false other =
        let apart = eqb-false t (to + 1) other in
        ap (λ (l : List ℕ). of_site l t) puts ∙ put_other numbers (to + 1) value t is site apart
        ∙ h.low t site (omega (arith, small, apart))

pub counted_all : (slow : SlowSite) → IsWell slow → (numbers : List ℕ) (to : ℕ) → slow.sites ≡ to
    → CountedTo slow numbers to → AreCounts slow numbers
counted_all slow well numbers to all h = record {
  sized = h.sized;
  counted = λ t is. by t is (nat_le t to) refl;
}
  where
    by : (t : ℕ) → IsSite t → (b : Bool) → nat_le t to ≡ b → of_site numbers t ≡ count slow t
    by t is true small = h.low t is (leb-true t to small)
    by t is false above =
        let out = leb-false t to above in
        h.high t is out ∙ sym (count_outside slow well t (omega (arith, out, all)))
