-- Where rows start, and a place that is found by it.
use Rattle.std.proofs.Common.{◌≡◌, ℕ, ◌+◌, ◌-◌, ◌<◌, ◌≤◌, Bool, true, false, if◌then◌else◌, nat_lt, List, [], ◌∷◌, ◌++◌}
use Rattle.std.proofs.Common.{length, take, drop, map, suc, zero, length-append, take-append-drop, sym, ap, ◌∙◌, refl}
use Rattle.std.proofs.Common.{subst, arith, slice_index, ⊎_elim}
use Rattle.std.proofs.lemmas.Bool.{cases_lt}
use Rattle.std.proofs.lemmas.List.{take_all, take_at, length-take-le}
use Rattle.std.proofs.lemmas.Bool.Decides.{nat_tests}
use Rattle.gd_chunks.specs.Rows.{joined, starts_from, row_at, IsPlace, IsLastUpto}
use Rattle.gd_chunks.proofs.Lists.{length-joined_more, length-joined_upto}

-- the place lies from low up to high
pub record Between (starts : List ℕ) (n low high : ℕ) : Type 0 where
  pub order : low < high
  pub within : high ≤ length starts
  pub upto : slice_index starts low ≤ n
  pub behind : high < length starts → n < slice_index starts high

not_above : (m n : ℕ) → nat_lt n m ≡ false → m ≤ n
not_above m n h = grind (arith, nat_tests)

above : (m n : ℕ) → nat_lt n m ≡ true → n < m
above m n h = grind (arith, nat_tests)

module _ (starts : List ℕ) (n low high middle : ℕ) (was : Between starts n low high) (from : low < middle)
    (below : middle < high) where
  pub halved : (is_above : Bool) → nat_lt n (slice_index starts middle) ≡ is_above → (pair : ℕ × ℕ)
      → pair ≡ (if is_above then (low, middle) else (middle, high)) → Between starts n pair.0 pair.1
  halved true is pair e =
      let within = was.within in
      subst (λ p. Between starts n p.0 p.1) (sym e)
      (record {
        order = from;
        within = omega arith;
        upto = was.upto;
        behind =
            λ _. above (slice_index starts middle) n is;
      })
  halved false is pair e =
      subst (λ p. Between starts n p.0 p.1) (sym e)
      (record {
        order = below;
        within = was.within;
        upto = not_above (slice_index starts middle) n is;
        behind =
            was.behind;
      })

pub found : (starts : List ℕ) (n low high : ℕ) → Between starts n low high → high ≤ low + 1 → IsLastUpto starts n low
found starts n low high was h =
    let order = was.order in
    let within = was.within in
    let next : high ≡ low + 1 = omega arith in
    record {
      within = omega arith;
      upto = was.upto;
      behind =
          subst (λ k. k < length starts → n < slice_index starts k) next was.behind;
    }

module _ {X : Type 0} where
  pub length-starts : (n : ℕ) (rows : List (List X)) → length (starts_from n rows) ≡ length rows
  length-starts n [] = refl
  length-starts n (row ∷ rows) = ap suc (length-starts (n + length row) rows)

  pub starts-append : (n : ℕ) (xs ys : List (List X))
      → starts_from n (xs ++ ys) ≡ starts_from n xs ++ starts_from (n + length (joined xs)) ys
  starts-append n [] ys = ap (λ m. starts_from m ys) (omega arith)
  starts-append n (x ∷ xs) ys =
      ap (λ l. n ∷ l)
      (starts-append (n + length x) xs ys
      ∙ ap (λ m. starts_from (n + length x) xs ++ starts_from m ys) (omega (arith, length-append x (joined xs))))

  pub starts-joined : (xs ys : List (List X))
      → starts_from 0 (xs ++ ys) ≡ starts_from 0 xs ++ starts_from (length (joined xs)) ys
  starts-joined xs ys = starts-append 0 xs ys ∙ ap (λ m. starts_from 0 xs ++ starts_from m ys) (omega arith)

  pub take-starts : (k : ℕ) (rows : List (List X)) → k ≤ length rows
      → take k (starts_from 0 rows) ≡ starts_from 0 (take k rows)
  take-starts k rows within =
      ap (λ l. take k (starts_from 0 l)) (sym (take-append-drop k rows))
      ∙ ap (take k) (starts-joined (take k rows) (drop k rows))
      ∙ take_at (starts_from 0 (take k rows)) (starts_from (length (joined (take k rows))) (drop k rows)) k
      (length-starts 0 (take k rows) ∙ length-take-le k rows within)

  pub starts-raised : (n : ℕ) (rows : List (List X)) → starts_from (n + 1) rows ≡ map (λ m. m + 1) (starts_from n rows)
  starts-raised n [] = refl
  starts-raised n (row ∷ rows) =
      ap (λ l. (n + 1) ∷ l) (ap (λ m. starts_from m rows) (omega arith) ∙ starts-raised (n + length row) rows)

  pub start_at : (n : ℕ) (rows : List (List X)) (k : ℕ) → k < length rows
      → slice_index (starts_from n rows) k ≡ n + length (joined (take k rows))
  start_at n [] k h = absurd (omega arith)
  start_at n (row ∷ rows) zero h = omega arith
  start_at n (row ∷ rows) (suc k) h =
      start_at (n + length row) rows k (omega arith) ∙ omega (arith, length-append row (joined (take k rows)))

  -- no start lies behind all elements
  pub starts_upto : (rows : List (List X)) (starts : List ℕ) (n : ℕ) → starts ≡ starts_from 0 rows
      → n ≡ length (joined rows) → (k : ℕ) → k < length starts → slice_index starts k ≤ n
  starts_upto rows starts n are all k inside =
      let within : k < length rows = omega (arith, ap length are, length-starts 0 rows) in
      omega (arith, ap (λ l. slice_index l k) are, start_at 0 rows k within, length-joined_upto rows k)

  pub first_start : (rows : List (List X)) (starts : List ℕ) (at : ℕ) → starts ≡ starts_from 0 rows → 0 < length rows
      → slice_index starts 0 ≤ at
  first_start rows starts at are some = omega (arith, ap (λ l. slice_index l 0) are, start_at 0 rows 0 some)

module _ {X : Type 0} (rows : List (List X)) (starts : List ℕ) (are : starts ≡ starts_from 0 rows) (at k : ℕ)
    (last : IsLastUpto starts at k) where
  inside_rows : k < length rows
  inside_rows = let within = last.within in omega (arith, ap length are, length-starts 0 rows)

  start_is : slice_index starts k ≡ length (joined (take k rows))
  start_is = ap (λ l. slice_index l k) are ∙ start_at 0 rows k inside_rows ∙ omega arith

  -- a bound of all elements bounds those up to and with the row
  bounded : (n : ℕ) → n ≤ length (joined rows) → (k + 1 < length starts → n ≤ slice_index starts (k + 1))
      → n ≤ length (joined (take k rows)) + length (row_at rows k)
  bounded n all next =
      let long : length starts ≡ length rows = ap length are ∙ length-starts 0 rows in
      let more = length-joined_more rows k inside_rows in
      ⊎_elim
      (λ (less : k + 1 < length rows).
      let start : slice_index starts (k + 1) ≡ length (joined (take (k + 1) rows)) =
      ap (λ l. slice_index l (k + 1)) are ∙ start_at 0 rows (k + 1) less ∙ omega arith in
      let here = next (omega arith) in
      omega arith)
      (λ (end : length rows ≤ k + 1).
      let same = ap (λ l. length (joined l)) (take_all (k + 1) rows end) in
      omega arith)
      (cases_lt (k + 1) (length rows))

  pub place_found : at ≤ length (joined rows) → IsPlace rows at k (at - slice_index starts k)
  place_found all =
      let upto = last.upto in
      let start = start_is in
      let upper = bounded at all (λ h. let next = last.behind h in omega arith) in
      record { row = inside_rows; column = omega arith; here = omega arith }

  pub inside_found : at < length (joined rows) → at - slice_index starts k < length (row_at rows k)
  inside_found all =
      let upto = last.upto in
      let start = start_is in
      let upper = bounded (at + 1) (omega arith) (λ h. let next = last.behind h in omega arith) in
      omega arith
