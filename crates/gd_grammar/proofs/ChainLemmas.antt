-- The chains of checks while events come.
use Rattle.std.proofs.Common.{◌≡◌, ◌≢◌, ◌∙◌, ℕ, ◌-◌, ◌<◌, ◌≤◌, ◌^◌, Bool, true, false, cond, List, [], ◌∷◌, ◌++◌, set}
use Rattle.std.proofs.Common.{get_or, ap, sym, refl, arith, eqb-true, eq-eqb, ne_eqb, length-set, true≢false}
use Rattle.std.specs.Prelude.{◌==◌}
use Rattle.std.specs.List.{filter}
use Rattle.std.proofs.lemmas.List.{get_or-replicate, get_or-set_same, get_or-set_other}
use Rattle.std.proofs.lemmas.List.Elements.{filter-append}
use Rattle.gd_base.specs.declared.ranges.TheConstants.{SITES}
use Rattle.gd_base.specs.Sites.{IsSite}
use Rattle.gd_check.specs.Checks.{check}
use Rattle.gd_events.specs.Events.{EventValue}
use Rattle.gd_grammar.specs.Chains.{chained, of_site, check_at, check_with, no_chains, with_taken, AreChains}
use Rattle.gd_grammar.specs.Kinds.{LogKind, spelling}
use Rattle.gd_grammar.proofs.LogRecords.{check-lt}

module _ {O : Type 0} (kind : LogKind O) where
  pub chained-append : (c : ℕ) (xs ys : List (EventValue O))
      → chained kind c (xs ++ ys) ≡ chained kind (chained kind c xs) ys
  unfolding chained
  chained-append c [] ys = refl
  chained-append c (x ∷ xs) ys = chained-append (check c (spelling kind x)) xs ys

  pub chained-lt : (c : ℕ) (events : List (EventValue O)) → c < 2 ^ 32 → chained kind c events < 2 ^ 32
  unfolding chained
  chained-lt c [] fits = fits
  chained-lt c (e ∷ es) fits = chained-lt (check c (spelling kind e)) es (check-lt c (spelling kind e))

  pub check_at-lt : (site : ℕ) (seen : List (EventValue O)) → check_at kind site seen < 2 ^ 32
  check_at-lt site seen = chained-lt 0 (of_site site seen) (omega arith)

  -- ---- an event behind these

  -- by whether it is of that site
  check_at-push : (site : ℕ) (seen : List (EventValue O)) (e : EventValue O) (b : Bool) → (e.stamp.site == site) ≡ b
      → check_at kind site (seen ++ e ∷ []) ≡ chained kind (check_at kind site seen) (cond b (e ∷ []) [])
  unfolding of_site
  check_at-push site seen e b is =
      let its = λ (f : EventValue O). f.stamp.site == site in
      ap (chained kind 0) (filter-append its seen (e ∷ []))
      ∙ chained-append 0 (filter its seen) (filter its (e ∷ []))
      ∙ ap (λ (t : Bool). chained kind (check_at kind site seen) (cond t (e ∷ []) [])) is

  -- it is of that site
  pub check_at-own : (site : ℕ) (seen : List (EventValue O)) (e : EventValue O) → e.stamp.site ≡ site
      → check_at kind site (seen ++ e ∷ []) ≡ check_with kind seen e
  unfolding chained
  check_at-own site seen e is =
      check_at-push site seen e true (eq-eqb e.stamp.site site is)
      ∙ ap (λ (s : ℕ). check (check_at kind s seen) (spelling kind e)) (sym is)

  -- it is of another site
  pub check_at-other : (site : ℕ) (seen : List (EventValue O)) (e : EventValue O) → e.stamp.site ≢ site
      → check_at kind site (seen ++ e ∷ []) ≡ check_at kind site seen
  unfolding chained
  check_at-other site seen e other = check_at-push site seen e false (ne_eqb e.stamp.site site other)

  -- ---- the checks of all sites

  pub none-are : AreChains kind no_chains []
  unfolding chained of_site
  none-are = record {
    long = refl;
    are = λ site from to. get_or-replicate SITES (site - 1) 0 0 (omega (arith, from, to));
  }

  -- that of an event's site once the event was taken in
  pub taken-check : (chains : List ℕ) (seen : List (EventValue O)) (e : EventValue O) (bytes : List ℕ)
      → AreChains kind chains seen → IsSite e.stamp.site → bytes ≡ spelling kind e
      → check (get_or chains (e.stamp.site - 1) 0) bytes ≡ check_with kind seen e
  taken-check chains seen e bytes are site is = rw (are.are e.stamp.site site.0 site.1, is) refl

  -- that of any site
  taken-at : (chains : List ℕ) (seen : List (EventValue O)) (e : EventValue O)
      → AreChains kind chains seen → IsSite e.stamp.site → (site : ℕ) → 1 ≤ site → site ≤ SITES
      → (b : Bool) → (e.stamp.site == site) ≡ b
      → get_or (set chains (e.stamp.site - 1) (check_with kind seen e)) (site - 1) 0
      ≡ check_at kind site (seen ++ e ∷ [])
  taken-at chains seen e are own site from to true is =
      let same = eqb-true e.stamp.site site is in
      let c = check_with kind seen e in
      ap (λ (s : ℕ). get_or (set chains (e.stamp.site - 1) c) (s - 1) 0) (sym same)
      ∙ get_or-set_same chains (e.stamp.site - 1) c 0 (omega (arith, are.long, own.0, own.1))
      ∙ sym (check_at-own site seen e same)
  taken-at chains seen e are own site from to false is =
      let other : e.stamp.site ≢ site = λ same. true≢false (sym (eq-eqb _ _ same) ∙ is) in
      let c = check_with kind seen e in
      get_or-set_other chains (e.stamp.site - 1) (site - 1) c 0 (λ same. other (omega (arith, same, from, own.0)))
      ∙ are.are site from to ∙ sym (check_at-other site seen e other)

  -- and so those of all sites
  pub taken-are : (chains : List ℕ) (seen : List (EventValue O)) (e : EventValue O) (bytes : List ℕ)
      → AreChains kind chains seen → IsSite e.stamp.site → bytes ≡ spelling kind e
      → AreChains kind (with_taken chains e.stamp.site bytes) (seen ++ e ∷ [])
  taken-are chains seen e bytes are site is =
      rw (taken-check chains seen e bytes are site is)
      (record {
        long = length-set chains (e.stamp.site - 1) (check_with kind seen e) ∙ are.long;
        are = λ s from to. taken-at chains seen e are site s from to (e.stamp.site == s) refl;
      })
