-- The laws of checks.
use Rattle.std.proofs.Common.{◌≡◌, ◌∙◌, ℕ, ◌^◌, ◌<◌, ◌≤◌, List, [], ◌∷◌, ◌++◌, length, ap, sym, subst, refl, arith}
use Rattle.std.specs.Int.RustNames.{bit_xor}
use Rattle.std.proofs.lemmas.Nat.{xor_lt}
use Rattle.gd_check.specs.Checks.{AreBits, AreBytes, IsBurst, IsCheck, all_bits, check, inverted, nexts, with_byte}
use Rattle.gd_check.specs.Checks.{with_bytes}
use Rattle.gd_check.proofs.Registers.{nexts_same, xor_same_left}
use Rattle.gd_check.proofs.Bits.{AreBits-back, AreBits-front, all_bits-bits, all_bits-same, bytes_by_bits, number}
use Rattle.gd_check.proofs.Bits.{number_lt, number_same, with_bits, with_bits-append, with_bits-lt, with_bits-number}
use Rattle.gd_check.proofs.Bits.{with_bits-same}
use lib.Pow.{pow_mono}

pub with_bytes-append : (c : ℕ) (a b : List ℕ) → with_bytes c (a ++ b) ≡ with_bytes (with_bytes c a) b
unfolding with_bytes
with_bytes-append c [] b = refl
with_bytes-append c (x ∷ a) b = with_bytes-append (with_byte c x) a b

pub with_bytes-lt : (c : ℕ) (a : List ℕ) → c < 2 ^ 32 → AreBytes a → with_bytes c a < 2 ^ 32
with_bytes-lt c a fits are
    = subst (λ (x : ℕ). x < 2 ^ 32) (bytes_by_bits c a are) (with_bits-lt c (all_bits a) fits (all_bits-bits a))

pub inverted-inverted : (c : ℕ) → c < 2 ^ 32 → inverted (inverted c) ≡ c
inverted-inverted c fits = omega arith

pub check_append : (previous : ℕ) (a b : List ℕ) → IsCheck previous → AreBytes a
    → check (check previous a) b ≡ check previous (a ++ b)
check_append previous a b fits are =
    let c = with_bytes (inverted previous) a in
    let low : c < 2 ^ 32 = with_bytes-lt (inverted previous) a (omega arith) are in
    ap (λ x. inverted (with_bytes x b)) (inverted-inverted c low)
    ∙ ap inverted (sym (with_bytes-append (inverted previous) a b))

-- equal checks, equal registers
same_registers : (c d : ℕ) → c < 2 ^ 32 → d < 2 ^ 32 → inverted c ≡ inverted d → c ≡ d
same_registers c d c_fits d_fits e = omega (arith, e)

module _ (c : ℕ) (fits : c < 2 ^ 32) (before here there after : List ℕ)
    (before_are : AreBits before) (here_are : AreBits here) (there_are : AreBits there) (after_are : AreBits after)
    (alike : length here ≡ length there) (few : length here ≤ 32) where
  start : ℕ
  start = with_bits c before

  start_lt : start < 2 ^ 32
  unfolding start
  start_lt = with_bits-lt c before fits before_are

  small : (row : List ℕ) → AreBits row → length row ≤ 32 → number row < 2 ^ 32
  small row are short = omega (arith, number_lt row are, pow_mono short)

  row_same : with_bits c (before ++ (here ++ after)) ≡ with_bits c (before ++ (there ++ after)) → here ≡ there
  unfolding start
  row_same e =
      let behind : with_bits (with_bits start here) after ≡ with_bits (with_bits start there) after =
      sym (with_bits-append start here after) ∙ sym (with_bits-append c before (here ++ after)) ∙ e
      ∙ with_bits-append c before (there ++ after) ∙ with_bits-append start there after in
      let same : with_bits start here
      ≡ with_bits start there
      = with_bits-same _ _ after (with_bits-lt start here start_lt here_are)
      (with_bits-lt start there start_lt there_are) after_are behind in
      let fallen : nexts (length here) (bit_xor start (number here))
      ≡ nexts (length here) (bit_xor start (number there)) =
      sym (with_bits-number start here here_are) ∙ same ∙ with_bits-number start there there_are
      ∙ ap (λ n. nexts n (bit_xor start (number there))) (sym alike) in
      let here_small = small here here_are few in
      let there_small = small there there_are (omega (arith, alike, few)) in
      let mixed = nexts_same (length here) _ _ (xor_lt 32 start (number here) start_lt here_small)
      (xor_lt 32 start (number there) start_lt there_small) fallen in
      number_same here there here_are there_are alike (xor_same_left (number here) (number there) start mixed)

pub bursts_found : (previous : ℕ) (a b : List ℕ) → IsCheck previous → AreBytes a → AreBytes b → IsBurst a b
    → check previous a ≡ check previous b → a ≡ b
bursts_found previous a b fits a_are b_are burst e =
    let c = inverted previous in
    let low : c < 2 ^ 32 = omega arith in
    let a_bits = subst AreBits burst.first (all_bits-bits a) in
    let b_bits = subst AreBits burst.second (all_bits-bits b) in
    let a_rest = AreBits-back burst.before (burst.here ++ burst.after) a_bits in
    let b_rest = AreBits-back burst.before (burst.there ++ burst.after) b_bits in
    let registers = same_registers (with_bytes c a) (with_bytes c b) (with_bytes-lt c a low a_are)
    (with_bytes-lt c b low b_are) e in
    let bits : with_bits c (burst.before ++ (burst.here ++ burst.after))
    ≡ with_bits c (burst.before ++ (burst.there ++ burst.after)) =
    ap (with_bits c) (sym burst.first) ∙ bytes_by_bits c a a_are ∙ registers ∙ sym (bytes_by_bits c b b_are)
    ∙ ap (with_bits c) burst.second in
    let row = row_same c low burst.before burst.here burst.there burst.after
    (AreBits-front burst.before _ a_bits) (AreBits-front burst.here burst.after a_rest)
    (AreBits-front burst.there burst.after b_rest) (AreBits-back burst.here burst.after a_rest)
    burst.alike burst.few bits in
    all_bits-same a b a_are b_are
    (burst.first ∙ ap (λ (l : List ℕ). burst.before ++ (l ++ burst.after)) row ∙ sym burst.second)

pub hang_on : (c d : ℕ) (bytes : List ℕ) → IsCheck c → IsCheck d → AreBytes bytes → check c bytes ≡ check d bytes
    → c ≡ d
hang_on c d bytes c_fits d_fits are e =
    let x = inverted c in
    let y = inverted d in
    let x_low : x < 2 ^ 32 = omega arith in
    let y_low : y < 2 ^ 32 = omega arith in
    let registers = same_registers (with_bytes x bytes) (with_bytes y bytes) (with_bytes-lt x bytes x_low are)
    (with_bytes-lt y bytes y_low are) e in
    let same = with_bits-same x y (all_bits bytes) x_low y_low (all_bits-bits bytes)
    (bytes_by_bits x bytes are ∙ registers ∙ sym (bytes_by_bits y bytes are)) in
    same_registers c d c_fits d_fits same
