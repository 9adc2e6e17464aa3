-- A sorted list of the keys of a map is the map's list of keys.
use Rattle.std.proofs.Common.{◌≡◌, ◌+◌, false, ◌||◌, List, [], ◌∷◌, map, None}
use Rattle.std.proofs.Common.{refl, sym, ap, ◌∙◌, subst, T, arith, Ordering}
use Rattle.std.specs.Prelude.{is_some}
use Rattle.std.specs.Ordering.{eq_by_cmp, is_eq, is_lt, match_ordering, ordering_reverse}
use Rattle.std.specs.declared.cmp.Ordering.TheVariants.{Less, Equal, Greater}
use Rattle.std.specs.List.{AllByRecursion as Every, IsDistinct, list_any}
use Rattle.std.specs.List.Sorted.{IsPermutation, IsSorted, IsStrictlySortedBy}
use Rattle.std.specs.FinMap as map_of
use Rattle.std.specs.FinMap.Entries.{put, by_order, below_all}
use Rattle.std.specs.BTreeSet.{insert_key}
use Rattle.std.specs.Cmp.{IsTotalOrder, eq_by_cmp_equiv}
use Rattle.std.proofs.lemmas.List.Sorted.{IsPermutation-refl, IsPermutation-trans, IsPermutation-sym}
use Rattle.std.proofs.lemmas.List.Sorted.{IsPermutation-cons, IsPermutation-middle, list_any-IsPermutation}
use Rattle.std.proofs.lemmas.Map.Keys.{IsDistinct-from_sorted, IsDistinct-IsPermutation, apart_from_distinct}
use Rattle.std.proofs.lemmas.Map.Keys.{sorted_from_all_adjacent}
use Rattle.std.proofs.lemmas.Map.Lookups.{btree_set_from_contains}
use Rattle.gd_drawing.proofs.Stacking.{t_first, t_second}

-- ---- the keys of a map with one entry more

-- a new key that is put in among others
put_in : {K : Type 0} (R : K → K → Ordering) (k : K) (ks : List K) → list_any (eq_by_cmp R k) ks ≡ false
    → IsPermutation (k ∷ ks) (insert_key R ks k)
put_in R k [] new = IsPermutation-refl (k ∷ [])
put_in R k (x ∷ ks) new =
    elim (R k x) as
    (λ r. (is_eq r || list_any (eq_by_cmp R k) ks) ≡ false
    → IsPermutation (k ∷ x ∷ ks) (match_ordering r (k ∷ x ∷ ks) (x ∷ ks) (x ∷ insert_key R ks k))) [
      | Less ↦ λ n. IsPermutation-refl (k ∷ x ∷ ks)
      | Equal ↦ λ n. cc
      | Greater ↦ λ n. IsPermutation-trans _ _ _ (IsPermutation-middle (k ∷ []) x ks)
          (IsPermutation-cons x _ _ (put_in R k ks n))
    ] new

-- it stands among them as its entry does
put_key : {K X : Type 0} (R : K → K → Ordering) (k : K) (x : X) (es : List (K × X))
    → insert_key R (map (λ e. e.0) es) k ≡ map (λ e. e.0) (put R k x es)
put_key R k x [] = refl
put_key R k x (e ∷ es) = by (R k e.0) (put_key R k x es)
  where
    by : (r : Ordering) → insert_key R (map (λ e. e.0) es) k ≡ map (λ e. e.0) (put R k x es)
        → match_ordering r (k ∷ e.0 ∷ map (λ e. e.0) es) (e.0 ∷ map (λ e. e.0) es)
        (e.0 ∷ insert_key R (map (λ e. e.0) es) k)
        ≡ map (λ e. e.0) (by_order r ((k, x) ∷ e ∷ es) ((e.0, x) ∷ es) (e ∷ put R k x es))
    by Less m = refl
    by Equal m = refl
    by Greater m = ap (λ l. e.0 ∷ l) m

pub keys_more : {K X : Type 0} {R : K → K → Ordering} (o : IsTotalOrder R) (m : map_of.FinMap R X) (k : K) (v : X)
    → map_of.get m k ≡ None → IsPermutation (k ∷ map_of.keys m) (map_of.keys (map_of.insert m k v))
keys_more {R = R} o m k v absent =
    let new : list_any (eq_by_cmp R k) (map_of.keys m) ≡ false = sym (map_of.contains_key-keys m k)
    ∙ ap is_some absent in
    subst (IsPermutation (k ∷ map_of.keys m))
    (put_key R k v (map_of.entries m) ∙ ap (map (λ e. e.0)) (sym (map_of.entries-insert o m k v)))
    (put_in R k (map_of.keys m) new)

-- ---- lists that rise strictly

less_than : (r : Ordering) → T (is_lt r) → r ≡ Less
less_than Less h = refl
less_than Equal h = absurd h
less_than Greater h = absurd h

keys_above : {K X : Type 0} (R : K → K → Ordering) (k : K) (es : List (K × X)) → T (below_all R k es)
    → Every (λ y. R k y ≡ Less) (map (λ e. e.0) es)
keys_above R k [] h = tt
keys_above R k (e ∷ es) h = (less_than _ (t_first _ _ h), keys_above R k es (t_second _ _ h))

keys_rise : {K X : Type 0} (R : K → K → Ordering) (es : List (K × X)) → T (map_of.is_sorted R es)
    → IsStrictlySortedBy R (map (λ e. e.0) es)
unfolding IsStrictlySortedBy
keys_rise R [] h = tt
keys_rise R (e ∷ es) h = (keys_above R e.0 es (t_first _ _ h), keys_rise R es (t_second _ _ h))

-- what isn't above another, and isn't equal to it, is below it
not_above : (r : Ordering) → is_lt (ordering_reverse r) ≡ false → is_eq r ≡ false → r ≡ Less
not_above Less p q = refl
not_above Equal p q = cc
not_above Greater p q = cc

module _ {K : Type 0} {R : K → K → Ordering} (o : IsTotalOrder R) where
  sorted_rises : (ks : List K) → IsSorted R ks → IsDistinct (eq_by_cmp R) ks → IsStrictlySortedBy R ks
  unfolding IsStrictlySortedBy
  sorted_rises [] sorted apart = tt
  sorted_rises (x ∷ ks) sorted apart =
      sorted_from_all_adjacent o (x ∷ ks) x (λ k within.
      not_above _ (ap is_lt (sym (o.antisymm _ _)) ∙ sorted k x (omega arith) within)
      (apart_from_distinct (eq_by_cmp R) (x ∷ ks) k (k + 1) x apart (omega arith) within))

  -- the keys of a map, gathered in any order and sorted
  pub sorted_keys : {X : Type 0} → map_of.IsAntisymmetric R → (m : map_of.FinMap R X) (ks sorted : List K)
      → IsPermutation ks (map_of.keys m) → IsPermutation ks sorted → IsSorted R sorted → sorted ≡ map_of.keys m
  sorted_keys same m ks sorted are moved up =
      let rise = keys_rise R (map_of.entries m) (map_of.entries_sorted m) in
      let order = IsPermutation-trans _ _ _ (IsPermutation-sym _ _ are) moved in
      let apart = IsDistinct-IsPermutation (eq_by_cmp R) (eq_by_cmp_equiv o).symm _ _ order
      (IsDistinct-from_sorted R _ rise) in
      btree_set_from_contains o (record { keys = sorted }) (record { keys = map_of.keys m })
      (sorted_rises sorted up apart) rise
      (λ q. sym (list_any-IsPermutation (eq_by_cmp R q) _ _ order)) same
