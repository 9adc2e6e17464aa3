-- What a filter keeps.
use Rattle.std.proofs.Common.{◌≡◌, Bool, true, false, cond, List, [], ◌∷◌, filter, refl, ap}
use Rattle.std.proofs.lemmas.Bool.{cond_both, false_from_ne_true}
use Rattle.std.specs.List.{AllByRecursion as Every}

module _ {X : Type 0} where
  pub filter-all : (test : X → Bool) (xs : List X) → Every (λ x. test x ≡ true) xs → filter test xs ≡ xs
  filter-all test [] h = refl
  filter-all test (x ∷ xs) h = rw h.0 (ap (λ (l : List X). x ∷ l) (filter-all test xs h.1))

  pub filter-none : (test : X → Bool) (xs : List X) → Every (λ x. test x ≡ false) xs → filter test xs ≡ []
  filter-none test [] h = refl
  filter-none test (x ∷ xs) h = rw h.0 (filter-none test xs h.1)

  -- a filter behind one that lets through all that it keeps
  pub filter-within : (p q : X → Bool) → ((x : X) → p x ≡ true → q x ≡ true) → (xs : List X)
      → filter p (filter q xs) ≡ filter p xs
  filter-within p q h [] = refl
  filter-within p q h (x ∷ xs) =
      let rest = filter-within p q h xs in
      cond_both (q x) _ _ (λ l. filter p l ≡ filter p (x ∷ xs))
      (λ within. ap (λ (l : List X). cond (p x) (x ∷ l) l) rest)
      (λ outside. let fails : p x
      ≡ false = false_from_ne_true (p x) (λ passes. let inside = h x passes in cc) in rw fails rest)

  -- two filters in either order
  pub filter-swap : (p q : X → Bool) (xs : List X) → filter p (filter q xs) ≡ filter q (filter p xs)
  filter-swap p q [] = refl
  filter-swap p q (x ∷ xs) = go (p x) refl (q x) refl (filter-swap p q xs)
    where
      go : (a : Bool) → p x ≡ a → (b : Bool) → q x ≡ b → filter p (filter q xs) ≡ filter q (filter p xs)
          → filter p (cond b (x ∷ filter q xs) (filter q xs)) ≡ filter q (cond a (x ∷ filter p xs) (filter p xs))
      go true s true t h = rw (s, t) (ap (λ (l : List X). x ∷ l) h)
      go true s false t h = rw t h
      go false s true t h = rw s h
      go false s false t h = h

  pub Every-filter : (P : X → Type 0) (test : X → Bool) (xs : List X) → Every P xs → Every P (filter test xs)
  Every-filter P test [] h = tt
  Every-filter P test (x ∷ xs) h
      = cond_both (test x) _ _ (Every P) (λ passes. (h.0, Every-filter P test xs h.1))
      (λ fails. Every-filter P test xs h.1)

  -- what holds of those that pass holds of all that are kept
  pub every-passing : (P : X → Type 0) (test : X → Bool) (xs : List X) → Every (λ x. test x ≡ true → P x) xs
      → Every P (filter test xs)
  every-passing P test [] h = tt
  every-passing P test (x ∷ xs) h
      = cond_both (test x) _ _ (Every P) (λ passes. (h.0 passes, every-passing P test xs h.1))
      (λ fails. every-passing P test xs h.1)
