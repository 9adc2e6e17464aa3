-- Worlds in which every site holds every event.
use Rattle.std.proofs.Common.{◌≡◌, ℕ, ◌<◌, ◌≤◌, true, List, [], ◌∷◌, ◌++◌, length, Contains, refl, sym, ap, ◌∙◌, subst}
use Rattle.std.proofs.Common.{append-nil, length-append, arith, inl, inr}
use Rattle.std.proofs.lemmas.Bool.{cases_Bool}
use Rattle.std.proofs.lemmas.List.{nil_from_length}
use Rattle.std.proofs.lemmas.List.Elements.{Contains-append_right}
use Rattle.std.specs.List.{AllByRecursion as Every}
use Rattle.gd_events.specs.Events.{Event}
use Rattle.gd_base.specs.Sites.{is_site}
use Rattle.gd_reference.specs.SlowSite.{count, made_by, own}
use Rattle.gd_reference.specs.World.{HoldsAll, World}
use Rattle.gd_protocol.proofs.Chains.{IsChain-by}
use Rattle.gd_protocol.proofs.Interleavings.{all_show_the_same, hold_fronts, own_of_stranger}
use Rattle.gd_protocol.proofs.Lists.{at_cases}
use Rattle.gd_protocol.proofs.Members.{contains_made, every_contained, made_contains}
use Rattle.gd_protocol.proofs.Passed.{passed-all}
use Rattle.gd_protocol.proofs.Steps.{own_is}
use Rattle.gd_protocol.specs.Kept.{Kept}
use Rattle.gd_protocol.specs.Passages.{AllAgree, AllHoldAll, AllHoldAsMany, Passage, all_passed}

-- nothing lies behind what is held, if all of it is held
nothing_behind : (k : ℕ) (got rest : List Event) → Every (λ e. e.stamp.clock ≤ k) got
    → Every (λ e. k < e.stamp.clock) rest → ((e : Event) → Contains rest e → Contains got e) → rest ≡ []
nothing_behind k got [] low high h = refl
nothing_behind k got (e ∷ es) low high h =
    let le = every_contained _ got e low (h e (0, omega arith, refl)) in absurd (omega (arith, le, high.0))

module _ (w : World) (h : Kept w) where
  -- no site holds more of another than that one made
  pub count_most : (s t : ℕ) → count (w.at t) s ≤ length (own (w.at s))
  count_most s t =
      let front = hold_fronts w h t s in
      omega (arith, ap (λ (l : List Event). length l) front.1, length-append (made_by s (w.at t).held) front.0)

  -- a site that holds every event holds as many of each as that one has made
  pub held_counts : (t : ℕ) → HoldsAll w t → (s : ℕ) → count (w.at t) s ≡ length (own (w.at s))
  held_counts t holds =
      at_cases (λ s. count (w.at t) s ≡ length (own (w.at s))) t
      (ap (λ (l : List Event). length l) (sym (own_is w h t)))
      (λ s apart.
      let k = h.knows t s (λ same. apart (sym same)) in
      let got = made_by s (w.at t).held in
      let none = nothing_behind ((w.at t).sure s) got k.beat.rest k.passed k.beat.above
      (λ e m.
      let behind = Contains-append_right got k.beat.rest e m in
      let made = subst (λ (l : List Event). Contains l e) (sym k.beat.is) behind in
      let by_maker = IsChain-by s 0 0 (own (w.at s)) (h.chain s) in
      let by : e.stamp.site ≡ s = every_contained _ (own (w.at s)) e by_maker made in
      subst (λ (u : ℕ). Contains (made_by u (w.at t).held) e) by (made_contains (w.at t).held e (holds s e made))) in
      let made = ap (λ (l : List Event). length l) k.beat.is in
      omega (arith, made, length-append got k.beat.rest, ap (λ (l : List Event). length l) none))

  -- and the other way round
  pub counts_held : (t : ℕ) → ((s : ℕ) → is_site w.sites s ≡ true → count (w.at t) s ≡ length (own (w.at s)))
      → HoldsAll w t
  counts_held t counts s e made =
      elim (cases_Bool (is_site w.sites s)) [
        | inl inside ↦
            let got = made_by s (w.at t).held in
            let front = hold_fronts w h t s in
            let lengths = ap (λ (l : List Event). length l) front.1 in
            let none : front.0 ≡ [] =
            nil_from_length front.0 (omega (arith, counts s inside, lengths, length-append got front.0)) in
            let all : own (w.at s) ≡ got = front.1 ∙ ap (λ (l : List Event). got ++ l) none ∙ append-nil got in
            contains_made s (w.at t).held e (subst (λ (l : List Event). Contains l e) all made)
        | inr outside ↦
            let none = subst (λ (l : List Event). Contains l e) (own_of_stranger w h s outside) made in
            absurd (omega (arith, none.1))
      ]

  pub held_agree : AllHoldAll w → AllAgree w
  held_agree all s t s_in t_in = all_show_the_same w h s t (all s s_in) (all t t_in)

  -- ---- further passages

  pub kept_passed : (ps : List Passage) → Kept (all_passed w ps)
  kept_passed ps = (passed-all w h ps).kept

-- the same of all sites
pub counted_all : (w : World) → Kept w → AllHoldAsMany w → AllHoldAll w
counted_all w h counts t t_in = counts_held w h t (λ s s_in. counts s t s_in t_in)

pub all_counted : (w : World) → Kept w → AllHoldAll w → AllHoldAsMany w
all_counted w h all s t s_in t_in = held_counts w h t (all t t_in) s

pub held_passed : (w : World) → Kept w → AllHoldAll w → (ps : List Passage) → AllHoldAll (all_passed w ps)
held_passed w h all ps t t_in =
    let passes = passed-all w h ps in
    let before : is_site w.sites t ≡ true = subst (λ (n : ℕ). is_site n t ≡ true) passes.sites t_in in
    counts_held (all_passed w ps) passes.kept t
    (λ s s_in.
    let made = ap (λ (l : List Event). length l) (passes.quiet s).own in
    let counts = held_counts w h t (all t before) s in
    omega (arith, made, counts, (passes.quiet t).counts s, count_most (all_passed w ps) passes.kept s t))
