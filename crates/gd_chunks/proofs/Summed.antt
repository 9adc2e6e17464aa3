-- Numbers that are kept as sums of what a block counts and of an offset: one of them, one more, and those that are
-- raised.
use Rattle.std.proofs.Common.{◌≡◌, ℕ, ◌+◌, ◌*◌, ◌-◌, ◌/◌, ◌^◌, ◌<◌, ◌≤◌, List, [], ◌∷◌, ◌++◌, length, take, drop, map}
use Rattle.std.proofs.Common.{get_or, min, length-append, take-append-drop, sym, ap, ◌∙◌, refl, arith, slice_index}
use Rattle.std.proofs.Common.{⊎_elim, subst}
use Rattle.std.proofs.lemmas.Bool.{cases_lt}
use Rattle.std.proofs.lemmas.List.{ext_get_or, get_or_default, get_or_append_left, get_or-append_right, get_or-take}
use Rattle.std.proofs.lemmas.List.{get_or-drop, get_or-map, get_or_push, length_push, length-take-le, length-drop}
use Rattle.std.proofs.lemmas.List.{length-map}
use Rattle.std.proofs.lemmas.List.FromFn.{length-map-range_with_len, get_or-map-range_with_len}
use Rattle.std.specs.List.{range_with_len}
use Rattle.gd_chunks.specs.declared.starts.TheConstants.{BLOCK}
use Rattle.gd_chunks.specs.Rows.{raised}
use Rattle.gd_chunks.specs.Summed.{sum_at, summed, AreSummed, AreRaised}

pub length-summed : (bs os : List ℕ) → length (summed bs os) ≡ length os
unfolding summed
length-summed bs os = length-map-range_with_len (sum_at bs os) 0 (length os)

pub summed_at : (bs os : List ℕ) (k : ℕ) → k < length os → slice_index (summed bs os) k ≡ sum_at bs os k
unfolding summed
summed_at bs os k inside = get_or-map-range_with_len (sum_at bs os) 0 (length os) k k 0 inside (omega arith)

pub summed-nil : (bs os : List ℕ) → os ≡ [] → summed bs os ≡ []
unfolding summed
summed-nil bs os none = ap (λ l. map (sum_at bs os) (range_with_len 0 (length l))) none

-- ---- numbers raised one by one

length-raised : (from : ℕ) (ns : List ℕ) → length (raised from ns) ≡ length ns
length-raised from ns =
    length-append (take from ns) (map (λ n. n + 1) (drop from ns))
    ∙ ap (λ m. length (take from ns) + m) (length-map (drop from ns) (λ n. n + 1))
    ∙ sym (length-append (take from ns) (drop from ns))
    ∙ ap length (take-append-drop from ns)

raised_before : (from k : ℕ) (ns : List ℕ) → from ≤ length ns → k < from
    → slice_index (raised from ns) k ≡ slice_index ns k
raised_before from k ns within low =
    let long = length-take-le from ns within in
    get_or_append_left (take from ns) (map (λ n. n + 1) (drop from ns)) 0 k (omega arith) ∙ get_or-take from ns k 0 low

raised_from : (from k : ℕ) (ns : List ℕ) → from ≤ k → k < length ns
    → slice_index (raised from ns) k ≡ slice_index ns k + 1
raised_from from k ns high inside =
    let long = length-take-le from ns (omega arith) in
    let at : from + (k - from) ≡ k = omega arith in
    get_or-append_right (take from ns) (map (λ n. n + 1) (drop from ns)) from k 0 long high
    ∙ get_or-map (λ n. n + 1) (drop from ns) (k - from) 0 0 (omega (arith, length-drop from ns))
    ∙ ap (λ n. n + 1) (get_or-drop from ns (k - from) 0 ∙ ap (λ j. slice_index ns j) at)

module _ (bs os : List ℕ) (are : AreSummed bs os) where
  pub block_inside : (k : ℕ) → k < length os → k / BLOCK < length bs
  block_inside k inside = let enough = are.enough in omega arith

  module _ (k b o : ℕ) (inside : k < length os) (block : b ≡ get_or bs (k / BLOCK) b) (offset : o ≡ get_or os k o) where
    sum_is : b + o ≡ sum_at bs os k
    sum_is =
        let first = block ∙ get_or_default bs (k / BLOCK) b 0 (block_inside k inside) in
        let second = offset ∙ get_or_default os k o 0 inside in
        omega arith

    pub sum_fits : b + o < 2 ^ 64
    sum_fits = omega (arith, sum_is, are.fit k inside)

    pub sum_read : b + o ≡ slice_index (summed bs os) k
    sum_read = sum_is ∙ sym (summed_at bs os k inside)

  -- a number more
  module _ (bs2 : List ℕ) (o n : ℕ) (same : (k : ℕ) → k < length bs → slice_index bs2 k ≡ slice_index bs k)
      (sum : slice_index bs2 (length os / BLOCK) + o ≡ n) where
    sum_same : (k : ℕ) → k < length os → sum_at bs2 (os ++ o ∷ []) k ≡ sum_at bs os k
    sum_same k inside =
        omega (arith, same (k / BLOCK) (block_inside k inside), get_or_append_left os (o ∷ []) 0 k inside)

    sum_last : (k : ℕ) → length os ≡ k → sum_at bs2 (os ++ o ∷ []) k ≡ n
    sum_last k end = omega (arith, sum, get_or_push os o 0 k end, ap (λ j. slice_index bs2 (j / BLOCK)) end)

    pub summed-push : summed bs2 (os ++ o ∷ []) ≡ summed bs os ++ n ∷ []
    summed-push =
        let longer = length-summed bs2 (os ++ o ∷ []) ∙ length_push os o in
        let long = length-summed bs os in
        ext_get_or 0 (summed bs2 (os ++ o ∷ [])) (summed bs os ++ n ∷ []) (omega (arith, length_push (summed bs os) n))
        (λ k (h : k < length (summed bs2 (os ++ o ∷ []))).
        let here = summed_at bs2 (os ++ o ∷ []) k (omega (arith, length_push os o)) in
        ⊎_elim
        (λ (inside : k < length os). here ∙ sum_same k inside ∙ sym (summed_at bs os k inside)
        ∙ sym (get_or_append_left (summed bs os) (n ∷ []) 0 k (omega arith)))
        (λ (end : length os ≤ k). let last : length os ≡ k = omega arith in here ∙ sum_last k last
        ∙ sym (get_or_push (summed bs os) n 0 k (omega arith)))
        (cases_lt k (length os)))

  -- the first numbers, and their blocks
  module _ (n m : ℕ) (within : n ≤ length os) (holds : n ≤ BLOCK * m) (few : BLOCK * m < n + BLOCK) where
    blocks_kept : m ≤ length bs
    blocks_kept = let enough = are.enough in omega arith

    sum_kept : (k : ℕ) → k < n → sum_at (take m bs) (take n os) k ≡ sum_at bs os k
    sum_kept k low = omega (arith, get_or-take m bs (k / BLOCK) 0 (omega arith), get_or-take n os k 0 low)

    pub summed-take : summed (take m bs) (take n os) ≡ take n (summed bs os)
    summed-take =
        let long = length-take-le n os within in
        let long_all = length-summed bs os in
        let long_kept = length-summed (take m bs) (take n os) in
        let long_taken = length-take-le n (summed bs os) (omega arith) in
        ext_get_or 0 (summed (take m bs) (take n os)) (take n (summed bs os)) (omega arith)
        (λ k (h : k < length (summed (take m bs) (take n os))).
        let low : k < n = omega arith in
        summed_at (take m bs) (take n os) k (omega arith) ∙ sum_kept k low ∙ sym (summed_at bs os k (omega arith))
        ∙ sym (get_or-take n (summed bs os) k 0 low))

    pub AreSummed-take : AreSummed (take m bs) (take n os)
    AreSummed-take =
        let long = length-take-le n os within in
        let blocks_long = length-take-le m bs blocks_kept in
        record {
          enough = omega arith;
          few = omega arith;
          fit = λ k (h : k < length (take n os)). omega (arith, sum_kept k (omega arith), are.fit k (omega arith));
        }

  -- a number that begins a block
  pub summed-begun : (n : ℕ) → length os / BLOCK ≡ length bs
      → summed (bs ++ n ∷ []) (os ++ 0 ∷ []) ≡ summed bs os ++ n ∷ []
  summed-begun n end =
      let first = get_or_push bs n 0 (length os / BLOCK) (sym end) in
      summed-push (bs ++ n ∷ []) 0 n (λ k h. get_or_append_left bs (n ∷ []) 0 k h) (omega arith)

  -- a number in the last block
  module _ (b n : ℕ) (inside : length os / BLOCK ≡ length bs → ⊥) (block : b ≡ get_or bs (length os / BLOCK) b)
      (rising : (k : ℕ) → k < length (summed bs os) → slice_index (summed bs os) k ≤ n) where
    last_block : b ≡ slice_index bs (length os / BLOCK)
    last_block =
        let enough = are.enough in let few = are.few in block ∙ get_or_default bs (length os / BLOCK) b 0 (omega arith)

    pub block_low : b ≤ n
    block_low =
        let enough = are.enough in
        let few = are.few in
        let last = length os - 1 in
        let some : last < length os = omega arith in
        let same : last / BLOCK ≡ length os / BLOCK = omega arith in
        omega (
          arith,
          last_block,
          ap (λ j. slice_index bs j) same,
          summed_at bs os last some,
          rising last (omega (arith, length-summed bs os)),
        )

    pub summed-more : summed bs (os ++ (n - b) ∷ []) ≡ summed bs os ++ n ∷ []
    summed-more = summed-push bs (n - b) n (λ k h. refl) (omega (arith, last_block, block_low))

  -- numbers raised: the rest of a block, and the blocks behind it
  module _ (from : ℕ) (within : from ≤ length os)
      (room : (k : ℕ) → k < length (summed bs os) → slice_index (summed bs os) k + 1 < 2 ^ 64) where
    sum_room : (k : ℕ) → k < length os → sum_at bs os k + 1 < 2 ^ 64
    sum_room k inside = omega (arith, summed_at bs os k inside, room k (omega (arith, length-summed bs os)))

    pub offset_room : (k : ℕ) → k < length os → slice_index os k + 1 < 2 ^ 64
    offset_room k inside = omega (arith, sum_room k inside)

    pub block_room : (k : ℕ) → k < length bs → slice_index bs k + 1 < 2 ^ 64
    block_room k inside =
        let few = are.few in
        let first : BLOCK * k < length os = omega arith in
        let same : BLOCK * k / BLOCK ≡ k = omega arith in
        omega (arith, sum_room (BLOCK * k) first, ap (λ j. slice_index bs j) same)

    module _ (bs2 os2 : List ℕ) (next end last : ℕ) (next_is : next ≡ from / BLOCK + 1)
        (end_is : end ≡ min (length os) (next * BLOCK)) (last_is : last ≡ length bs)
        (offsets : AreRaised os os2 from end) (blocks : AreRaised bs bs2 next last) where
      sum_before : (k : ℕ) → k < from → sum_at bs2 os2 k ≡ sum_at bs os k
      sum_before k low = omega (arith, offsets.before k low, blocks.before (k / BLOCK) (omega arith))

      sum_from : (k : ℕ) → from ≤ k → k < length os → sum_at bs2 os2 k ≡ sum_at bs os k + 1
      sum_from k high inside =
          ⊎_elim
          (λ (here : k < next * BLOCK). omega
          (arith, offsets.between k high (omega arith), blocks.before (k / BLOCK) (omega arith)))
          (λ (behind : next * BLOCK ≤ k). omega (
            arith,
            offsets.behind k (omega arith),
            blocks.between (k / BLOCK) (omega arith) (omega (arith, block_inside k inside)),
          ))
          (cases_lt k (next * BLOCK))

      pub summed-raised : summed bs2 os2 ≡ raised from (summed bs os)
      summed-raised =
          let long = length-summed bs os in
          let long2 = length-summed bs2 os2 in
          let same = offsets.long in
          ext_get_or 0 (summed bs2 os2) (raised from (summed bs os)) (omega (arith, length-raised from (summed bs os)))
          (λ k (h : k < length (summed bs2 os2)).
          let inside : k < length os = omega arith in
          let here = summed_at bs2 os2 k (omega arith) in
          ⊎_elim
          (λ (low : k < from). here ∙ sum_before k low ∙ sym (summed_at bs os k inside)
          ∙ sym (raised_before from k (summed bs os) (omega arith) low))
          (λ (high : from ≤ k). here ∙ sum_from k high inside ∙ ap (λ n. n + 1) (sym (summed_at bs os k inside))
          ∙ sym (raised_from from k (summed bs os) high (omega arith)))
          (cases_lt k from))

      pub AreSummed-raised : AreSummed bs2 os2
      AreSummed-raised =
          let enough = are.enough in
          let few = are.few in
          record {
            enough = omega (arith, offsets.long, blocks.long);
            few = omega (arith, offsets.long, blocks.long);
            fit = λ k (h : k < length os2).
                let inside : k < length os = omega (arith, offsets.long) in
                ⊎_elim
                (λ (low : k < from). omega (arith, sum_before k low, are.fit k inside))
                (λ (high : from ≤ k). omega (arith, sum_from k high inside, sum_room k inside))
                (cases_lt k from);
          }

-- the numbers up to the end, or none of them, where the end lies before the first
pub AreRaised-upto : (old new : List ℕ) (from to at : ℕ) → to ≤ at → (from ≤ to → at ≤ to) → (to < from → at ≡ from)
    → AreRaised old new from at → AreRaised old new from to
AreRaised-upto old new from to at end upto idle raised =
    ⊎_elim
    (λ (none : to < from).
    let same : at ≡ from = idle none in
    record {
      long = raised.long;
      before = raised.before;
      between = λ k high here. absurd (omega arith);
      behind = λ k high.
          ⊎_elim
          (λ (low : k < from). raised.before k low)
          (λ (above : from ≤ k). raised.behind k (omega arith))
          (cases_lt k from);
    })
    (λ (some : from ≤ to). let same : at ≡ to = omega (arith, upto some) in subst (AreRaised old new from) same raised)
    (cases_lt to from)
