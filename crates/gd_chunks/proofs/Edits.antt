-- Edits of rows, and of where they start.
use Rattle.std.proofs.Common.{◌≡◌, ℕ, ◌+◌, ◌-◌, ◌<◌, ◌≤◌, List, [], ◌∷◌, ◌++◌, length, take, drop, append_assoc}
use Rattle.std.proofs.Common.{append-nil, length-append, length-drop, take-append-drop, sym, ap, ◌∙◌, arith}
use Rattle.std.proofs.lemmas.List.{take_more, get_or_at, get_or_push, take_at, length_push, length-take-le}
use Rattle.gd_chunks.specs.Rows.{joined, starts_from, row_at, IsPlace, HasRoom, parted}
use Rattle.gd_chunks.proofs.Lists.{joined-append, split}
use Rattle.gd_chunks.proofs.RowStarts.{starts-joined}

-- ---- a row more

module _ {X : Type 0} where
  pub starts_more : (rows : List (List X)) (k : ℕ) (starts : List ℕ) (n : ℕ) → k < length rows
      → starts ≡ starts_from 0 (take k rows) → n ≡ length (joined (take k rows))
      → starts ++ n ∷ [] ≡ starts_from 0 (take (k + 1) rows)
  starts_more rows k starts n within are is =
      (λ j. are j ++ (is j) ∷ [])
      ∙ sym (starts-joined (take k rows) (row_at rows k ∷ []))
      ∙ ap (starts_from 0) (sym (take_more rows k [] within))

  pub opened : (rows rows2 : List (List X)) (starts starts2 : List ℕ) (at k : ℕ) → starts ≡ starts_from 0 rows
      → at ≡ length (joined rows) → k ≡ length rows → rows2 ≡ rows ++ [] ∷ [] → starts2 ≡ starts ++ at ∷ []
      → HasRoom rows rows2 starts2 at k 0
  opened rows rows2 starts starts2 at k are end last is is2 =
      let here : row_at rows2 k ≡ [] = ap (λ l. row_at l k) is ∙ get_or_push rows [] [] k (sym last) in
      let front : take k rows2 ≡ rows = ap (take k) is ∙ take_at rows ([] ∷ []) k (sym last) in
      record {
        items = ap joined is ∙ joined-append rows ([] ∷ []) ∙ append-nil (joined rows);
        starts_are =
            is2 ∙ (λ j. are j ++ (end j) ∷ []) ∙ sym (starts-joined rows ([] ∷ [])) ∙ ap (starts_from 0) (sym is);
        place = record {
          row = omega (arith, ap length is, length_push rows []);
          column = omega arith;
          here = omega (arith, end, ap (λ l. length (joined l)) front);
        };
        room = omega (arith, ap length here);
      }

-- ---- a row in two

module _ {X : Type 0} (rows : List (List X)) (k n : ℕ) (within : k < length rows)
    (cut : n ≤ length (row_at rows k)) where
  abbrev left : List (List X)
  left = take k rows

  abbrev row : List X
  row = row_at rows k

  abbrev right : List (List X)
  right = drop (k + 1) rows

  length-left : length left ≡ k
  length-left = length-take-le k rows (omega arith)

  length-first : length (take n row) ≡ n
  length-first = length-take-le n row cut

  length-second : length (drop n row) ≡ length row - n
  length-second = length-drop n row

  pub take-parted : take k (parted rows k n) ≡ left
  take-parted = take_at left (take n row ∷ drop n row ∷ right) k length-left

  pub joined-parted : joined (parted rows k n) ≡ joined rows
  joined-parted =
      joined-append left (take n row ∷ drop n row ∷ right)
      ∙ ap (λ l. joined left ++ l)
      (sym (append_assoc (take n row) (drop n row) (joined right))
      ∙ ap (λ l. l ++ joined right) (take-append-drop n row))
      ∙ sym (joined-append left (row ∷ right))
      ∙ ap joined (sym (split rows k within))

  pub length-parted : length (parted rows k n) ≡ length rows + 1
  length-parted =
      omega (arith, length-append left (take n row ∷ drop n row ∷ right), length-left, length-drop (k + 1) rows)

  abbrev both : List (List X)
  both = left ++ take n row ∷ []

  length-both : length both ≡ k + 1
  length-both = omega (arith, length_push left (take n row), length-left)

  apart : parted rows k n ≡ both ++ drop n row ∷ right
  apart = sym (append_assoc left (take n row ∷ []) (drop n row ∷ right))

  -- the place of an element once its row is in two
  pub parted_front : (at i : ℕ) → IsPlace rows at k i → i ≤ n → IsPlace (parted rows k n) at k i
  parted_front at i place low =
      let first : row_at (parted rows k n) k ≡ take n row =
      get_or_at left (take n row) (drop n row ∷ right) [] k length-left in
      record {
        row = omega (arith, length-parted);
        column = omega (arith, ap length first, length-first);
        here = place.here ∙ ap (λ l. length (joined l) + i) (sym take-parted);
      }

  pub parted_back : (at i : ℕ) → IsPlace rows at k i → n ≤ i → IsPlace (parted rows k n) at (k + 1) (i - n)
  parted_back at i place high =
      let second : row_at (parted rows k n) (k + 1) ≡ drop n row =
      ap (λ l. row_at l (k + 1)) apart ∙ get_or_at both (drop n row) right [] (k + 1) length-both in
      let front : take (k + 1) (parted rows k n) ≡ both =
      ap (take (k + 1)) apart ∙ take_at both (drop n row ∷ right) (k + 1) length-both in
      let joined_both : length (joined both) ≡ length (joined left) + n =
      ap length (joined-append left (take n row ∷ [])) ∙ length-append (joined left) (take n row ++ [])
      ∙ ap (λ m. length (joined left) + m) (ap length (append-nil (take n row)) ∙ length-first) in
      let column = place.column in
      let here = place.here in
      record {
        row = omega (arith, length-parted);
        column = omega (arith, ap length second, length-second);
        here = omega (arith, joined_both, ap (λ l. length (joined l)) front);
      }

  pub front_room : length (row_at (parted rows k n) k) ≡ n
  front_room = ap length (get_or_at left (take n row) (drop n row ∷ right) [] k length-left) ∙ length-first

  pub back_room : length (row_at (parted rows k n) (k + 1)) ≡ length row - n
  back_room =
      ap (λ l. length (row_at l (k + 1))) apart ∙ ap length (get_or_at both (drop n row) right [] (k + 1) length-both)
      ∙ length-second
