-- Four bytes, or eight, are taken in at once.
use Rattle.std.proofs.Common.{◌≡◌, ◌∙◌, ℕ, ◌+◌, ◌-◌, ◌*◌, ◌/◌, ◌^◌, ◌<◌, ◌≤◌, List, [], ◌∷◌, length, take, drop, get_or}
use Rattle.std.proofs.Common.{ap, ap₂, sym, arith, zero, suc}
use Rattle.std.proofs.lemmas.List.{drop_more, length-drop, take_all}
use Rattle.std.specs.Int.RustNames.{bit_and, bit_xor}
use Rattle.std.proofs.lemmas.Nat.{and_mask}
use Rattle.gd_check.specs.Checks.{nexts, with_byte, with_bytes}
use Rattle.gd_check.proofs.Registers.{nexts_add, nexts_both, nexts_more, nexts_split, xor_assoc, xor_beside}

abbrev pub word : ℕ → ℕ → ℕ → ℕ → ℕ
word a b c d = a + b * 2 ^ 8 + c * 2 ^ 16 + d * 2 ^ 24

module _ (r a b c d : ℕ) (a_fits : a < 256) (b_fits : b < 256) (c_fits : c < 256) where
  two : nexts 8 (bit_xor (nexts 8 (bit_xor r a)) b) ≡ nexts 16 (bit_xor r (a + b * 2 ^ 8))
  two = nexts_more 8 (bit_xor r a) b
      ∙ ap (nexts 16) (xor_assoc r a (b * 2 ^ 8) ∙ ap (bit_xor r) (xor_beside 8 a b a_fits))

  three : nexts 8 (bit_xor (nexts 16 (bit_xor r (a + b * 2 ^ 8))) c) ≡ nexts 24 (bit_xor r (a + b * 2 ^ 8 + c * 2 ^ 16))
  three = nexts_more 16 (bit_xor r (a + b * 2 ^ 8)) c
      ∙ ap (nexts 24) (xor_assoc r (a + b * 2 ^ 8) (c * 2 ^ 16)
      ∙ ap (bit_xor r) (xor_beside 16 (a + b * 2 ^ 8) c (omega arith)))

  four : nexts 8 (bit_xor (nexts 24 (bit_xor r (a + b * 2 ^ 8 + c * 2 ^ 16))) d) ≡ nexts 32 (bit_xor r (word a b c d))
  four = nexts_more 24 (bit_xor r (a + b * 2 ^ 8 + c * 2 ^ 16)) d
      ∙ ap (nexts 32) (xor_assoc r (a + b * 2 ^ 8 + c * 2 ^ 16) (d * 2 ^ 24)
      ∙ ap (bit_xor r) (xor_beside 24 (a + b * 2 ^ 8 + c * 2 ^ 16) d (omega arith)))

  pub word_falls : nexts 32 (bit_xor r (word a b c d)) ≡ with_bytes r (a ∷ b ∷ c ∷ d ∷ [])
  unfolding with_bytes
  word_falls =
      sym (
      ap (λ x. nexts 8 (bit_xor (nexts 8 (bit_xor x c)) d)) two ∙ ap (λ x. nexts 8 (bit_xor x d)) three ∙ four
      )

-- two words, one after the other
pub words_fall : (r a b c d e f g h : ℕ) → a < 256 → b < 256 → c < 256 → e < 256 → f < 256 → g < 256
    → bit_xor (nexts 64 (bit_xor r (word a b c d))) (nexts 32 (word e f g h))
    ≡ with_bytes r (a ∷ b ∷ c ∷ d ∷ e ∷ f ∷ g ∷ h ∷ [])
unfolding with_bytes
words_fall r a b c d e f g h a_fits b_fits c_fits e_fits f_fits g_fits =
    let mixed = bit_xor r (word a b c d) in
    ap (λ x. bit_xor x (nexts 32 (word e f g h))) (sym (nexts_add 32 32 mixed))
    ∙ sym (nexts_both 32 (nexts 32 mixed) (word e f g h))
    ∙ word_falls (nexts 32 mixed) e f g h e_fits f_fits g_fits
    ∙ ap (λ x. with_bytes x (e ∷ f ∷ g ∷ h ∷ [])) (word_falls r a b c d a_fits b_fits c_fits)

-- a word falls out by four rows, with so many bits of zeros behind it
pub by_rows : (n x first second third fourth : ℕ)
    → first ≡ nexts (8 + (8 + (8 + (8 + n)))) (bit_and x 255)
    → second ≡ nexts (8 + (8 + (8 + n))) (bit_and (x / 256) 255)
    → third ≡ nexts (8 + (8 + n)) (bit_and (x / 65536) 255)
    → fourth ≡ nexts (8 + n) (x / 16777216)
    → bit_xor first (bit_xor second (bit_xor third fourth)) ≡ nexts (8 + (8 + (8 + (8 + n)))) x
by_rows n x first second third fourth first_is second_is third_is fourth_is =
    let h1 = x / 256 in
    let h2 = x / 256 / 256 in
    let h3 = x / 256 / 256 / 256 in
    let h2_is : x / 65536 ≡ h2 = omega arith in
    let h3_is : x / 16777216 ≡ h3 = omega arith in
    sym (
    nexts_split (8 + (8 + (8 + n))) x
    ∙ ap₂ bit_xor (ap (nexts (8 + (8 + (8 + (8 + n))))) (sym (and_mask x 8)) ∙ sym first_is)
    (nexts_split (8 + (8 + n)) h1
    ∙ ap₂ bit_xor (ap (nexts (8 + (8 + (8 + n)))) (sym (and_mask h1 8)) ∙ sym second_is)
    (nexts_split (8 + n) h2
    ∙ ap₂ bit_xor (ap (nexts (8 + (8 + n))) (sym (and_mask h2 8) ∙ ap (λ h. bit_and h 255) (sym h2_is)) ∙ sym third_is)
    (ap (nexts (8 + n)) (sym h3_is) ∙ sym fourth_is)))
    )

-- so many bytes from that place on, one by one
abbrev pub picked : ℕ → ℕ → List ℕ → List ℕ
picked i zero left = []
picked i (suc n) left = get_or left i 0 ∷ picked (i + 1) n left

picked_fall : (r i n : ℕ) (left : List ℕ) → i + n ≤ length left
    → with_bytes (with_bytes r (picked i n left)) (drop (i + n) left) ≡ with_bytes r (drop i left)
unfolding with_bytes
picked_fall r i zero left long = let e : i + 0 ≡ i = omega arith in ap (λ j. with_bytes r (drop j left)) e
picked_fall r i (suc n) left long =
    let now = with_byte r (get_or left i 0) in
    let e : i + suc n ≡ i + 1 + n = omega arith in
    ap (λ j. with_bytes (with_bytes now (picked (i + 1) n left)) (drop j left)) e
    ∙ picked_fall now (i + 1) n left (omega (arith, long))
    ∙ sym (ap (with_bytes r) (drop_more left i 0 (omega (arith, long))))

-- so many bytes and the rest
pub more : (n r now k : ℕ) (left : List ℕ) → n ≤ length left → k ≡ length left - n
    → now ≡ with_bytes r (picked 0 n left) → with_bytes now (take k (drop n left)) ≡ with_bytes r left
more n r now k left long count is =
    let e : 0 + n ≡ n = omega arith in
    ap (λ (l : List ℕ). with_bytes now l) (take_all k (drop n left) (omega (arith, count, length-drop n left)))
    ∙ ap (λ x. with_bytes x (drop n left)) is
    ∙ ap (λ j. with_bytes (with_bytes r (picked 0 n left)) (drop j left)) (sym e)
    ∙ picked_fall r 0 n left (omega (arith, long))
