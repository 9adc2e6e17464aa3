-- A list of operations whose newest is the last, seen from the newest on.
use Rattle.std.proofs.Common.{◌≡◌, ℕ, suc, ◌<◌, List, [], ◌∷◌, ◌++◌, length, map, take, drop, refl, sym, ap, ◌∙◌, arith}
use Rattle.std.proofs.lemmas.List.{length-map, length-reverse, map-append, reverse-append, take_all, take_at}
use Rattle.std.specs.Prelude.{reverse}

module _ {X Y : Type 0} (f : X → Y) where
  abbrev pub seen : List X → List Y
  seen xs = reverse (map f xs)

  -- one more is the first that is seen
  pub seen-more : (xs : List X) (x : X) → seen (xs ++ x ∷ []) ≡ f x ∷ seen xs
  seen-more xs x = ap reverse (map-append f xs (x ∷ [])) ∙ reverse-append (map f xs) (f x ∷ [])

  length-seen : (xs : List X) → length (seen xs) ≡ length xs
  length-seen xs = length-reverse (map f xs) ∙ length-map xs f

  -- where there is room for all, all are seen
  pub seen-few : (n : ℕ) (xs : List X) → length xs < suc n → seen xs ≡ take n (seen xs)
  seen-few n xs few = sym (take_all n (seen xs) (omega (arith, few, length-seen xs)))

  -- and where there is one too many, all but the oldest
  pub seen-full : (n : ℕ) (xs : List X) → length xs ≡ suc n → seen (drop 1 xs) ≡ take n (seen xs)
  seen-full n [] full = absurd (omega (arith, full))
  seen-full n (x ∷ xs) full =
      sym
      (ap (take n) (reverse-append (f x ∷ []) (map f xs))
      ∙ take_at (seen xs) (f x ∷ []) n (omega (arith, full, length-seen xs)))

-- nothing is seen where there is nothing
pub none-seen : {X : Type 0} (xs : List X) → length xs ≡ 0 → reverse xs ≡ []
none-seen [] none = refl
none-seen (x ∷ xs) none = cc
