-- The register: what falls out of it depends on it alone, and different registers stay different.
use Rattle.std.proofs.Common.{◌≡◌, ◌∙◌, ℕ, zero, suc, ◌+◌, ◌*◌, ◌/◌, ◌%◌, ◌^◌, ◌<◌, inl, inr, ap, ap₂, sym, refl, arith}
use Rattle.std.proofs.Common.{◌==◌, ◌⊎◌}
use Rattle.std.specs.Prelude.{cond}
use Rattle.std.specs.Int.RustNames.{bit_xor}
use Rattle.std.specs.Int.Bits.{xor_self, xor_zero_l, xor_zero_r, xor_add_and}
use Rattle.std.proofs.lemmas.Nat.{xor_comm, xor_lt, xor_shr, xor_block}
use Rattle.std.proofs.lemmas.Nat.Bits.{bit_at_xor, same_from_bits}
use Rattle.std.proofs.lemmas.Bool.{cases_eq}
use Rattle.gd_check.specs.Checks.{next, nexts, polynomial}
use native.Mathlib.Nat.{pow-suc}

-- ---- exclusive or

pub xor_assoc : (a b c : ℕ) → bit_xor (bit_xor a b) c ≡ bit_xor a (bit_xor b c)
xor_assoc a b c = same_from_bits _ _
    (λ i. omega (arith, bit_at_xor (bit_xor a b) c i, bit_at_xor a b i, bit_at_xor a (bit_xor b c) i, bit_at_xor b c i))

pub xor_back : (a b : ℕ) → bit_xor (bit_xor a b) b ≡ a
xor_back a b = xor_assoc a b b ∙ ap (bit_xor a) (xor_self b) ∙ xor_zero_r a

pub xor_same_right : (a b c : ℕ) → bit_xor a c ≡ bit_xor b c → a ≡ b
xor_same_right a b c e = sym (xor_back a c) ∙ ap (λ x. bit_xor x c) e ∙ xor_back b c

pub xor_same_left : (a b c : ℕ) → bit_xor c a ≡ bit_xor c b → a ≡ b
xor_same_left a b c e = xor_same_right a b c (xor_comm a c ∙ e ∙ xor_comm c b)

xor_swapped : (a b c : ℕ) → bit_xor (bit_xor a b) c ≡ bit_xor (bit_xor a c) b
xor_swapped a b c = xor_assoc a b c ∙ ap (bit_xor a) (xor_comm b c) ∙ sym (xor_assoc a c b)

-- low bits and high bits, side by side
pub xor_beside : (k low high : ℕ) → low < 2 ^ k → bit_xor low (high * 2 ^ k) ≡ low + high * 2 ^ k
xor_beside k low high fits =
    let fits0 : 0 < 2 ^ k = omega arith in
    let block = xor_block k 0 high low 0 fits fits0 in
    let left : 0 * 2 ^ k + low ≡ low = omega arith in
    let right : high * 2 ^ k + 0 ≡ high * 2 ^ k = omega arith in
    let high_is : bit_xor 0 high * 2 ^ k ≡ high * 2 ^ k = ap (λ x. x * 2 ^ k) (xor_zero_l high) in
    ap (λ x. bit_xor x (high * 2 ^ k)) (sym left) ∙ ap (bit_xor (0 * 2 ^ k + low)) (sym right) ∙ block
    ∙ omega (arith, high_is, xor_zero_r low)

xor_half : (a b : ℕ) → bit_xor a b / 2 ≡ bit_xor (a / 2) (b / 2)
xor_half a b = xor_shr a b 1

xor_low : (a b : ℕ) → bit_xor a b % 2 ≡ (a + b) % 2
xor_low a b = omega (arith, xor_add_and a b)

-- ---- one bit falls out

abbrev fallen : ℕ → ℕ → ℕ
fallen bit half = cond (bit == 1) (bit_xor half polynomial) half

next_is : (c : ℕ) → next c ≡ fallen (c % 2) (c / 2)
unfolding next
next_is c = refl

next_even : (c : ℕ) → c % 2 ≡ 0 → next c ≡ c / 2
next_even c e = next_is c ∙ ap (λ d. fallen d (c / 2)) e

next_odd : (c : ℕ) → c % 2 ≡ 1 → next c ≡ bit_xor (c / 2) polynomial
next_odd c e = next_is c ∙ ap (λ d. fallen d (c / 2)) e

is_even : (c : ℕ) → (c % 2 ≡ 1) ⊎ (c % 2 ≡ 0)
is_even c = elim (cases_eq (c % 2) 1) [
  | inl odd ↦ inl odd
  | inr even ↦ inr (omega (arith, even))
]

pub next_lt : (c : ℕ) → c < 2 ^ 32 → next c < 2 ^ 32
next_lt c fits = elim (is_even c) [
  | inl odd ↦ omega (arith, next_odd c odd, xor_lt 32 (c / 2) polynomial (omega arith) (omega arith))
  | inr even ↦ omega (arith, next_even c even)
]

-- the polynomial's highest bit shows that it was put there
high_bit : (h : ℕ) → h < 2 ^ 31 → bit_xor h polynomial / 2 ^ 31 ≡ 1
high_bit h low =
    let none : h / 2 ^ 31 ≡ 0 = omega arith in
    xor_shr h polynomial 31 ∙ ap (λ x. bit_xor x 1) none ∙ xor_zero_l 1

apart_even : (a b : ℕ) → a < 2 ^ 32 → b < 2 ^ 32 → a % 2 ≡ 1 → b % 2 ≡ 0 → next a ≡ next b → ⊥
apart_even a b a_fits b_fits odd even e
    = omega (arith, high_bit (a / 2) (omega arith), next_odd a odd, next_even b even, e)

pub next_same : (a b : ℕ) → a < 2 ^ 32 → b < 2 ^ 32 → next a ≡ next b → a ≡ b
next_same a b a_fits b_fits e = elim (is_even a) [
  | inl a_odd ↦ elim (is_even b) [
    | inl b_odd ↦
        let halves = xor_same_right (a / 2) (b / 2) polynomial (sym (next_odd a a_odd) ∙ e ∙ next_odd b b_odd) in
        omega (arith, halves, a_odd, b_odd)
    | inr b_even ↦ absurd (apart_even a b a_fits b_fits a_odd b_even e)
  ]
  | inr a_even ↦ elim (is_even b) [
    | inl b_odd ↦ absurd (apart_even b a b_fits a_fits b_odd a_even (sym e))
    | inr b_even ↦ omega (arith, next_even a a_even, next_even b b_even, e, a_even, b_even)
  ]
]

-- what lies above the lowest bit comes down by one
next_xor : (x y : ℕ) → next (bit_xor x (2 * y)) ≡ bit_xor (next x) y
next_xor x y =
    let half : bit_xor x (2 * y) / 2 ≡ bit_xor (x / 2) y = xor_half x (2 * y) ∙ ap (bit_xor (x / 2)) (omega arith) in
    let low : bit_xor x (2 * y) % 2 ≡ x % 2 = omega (arith, xor_low x (2 * y)) in
    elim (is_even x) [
      | inl odd ↦
          next_odd (bit_xor x (2 * y)) (low ∙ odd) ∙ ap (λ h. bit_xor h polynomial) half
          ∙ xor_swapped (x / 2) y polynomial ∙ ap (λ h. bit_xor h y) (sym (next_odd x odd))
      | inr even ↦
          next_even (bit_xor x (2 * y)) (low ∙ even) ∙ half ∙ ap (λ h. bit_xor h y) (sym (next_even x even))
    ]

-- the registers of two numbers together are those of each, together
odd_odd : (x y : ℕ) → x % 2 ≡ 1 → y % 2 ≡ 1 → next (bit_xor x y) ≡ bit_xor (next x) (next y)
odd_odd x y x_odd y_odd =
    next_even (bit_xor x y) (omega (arith, xor_low x y, x_odd, y_odd)) ∙ xor_half x y
    ∙ ap (λ h. bit_xor h (y / 2)) (sym (xor_back (x / 2) polynomial))
    ∙ xor_assoc (bit_xor (x / 2) polynomial) polynomial (y / 2)
    ∙ ap (bit_xor (bit_xor (x / 2) polynomial)) (xor_comm polynomial (y / 2))
    ∙ ap₂ bit_xor (sym (next_odd x x_odd)) (sym (next_odd y y_odd))

odd_even : (x y : ℕ) → x % 2 ≡ 1 → y % 2 ≡ 0 → next (bit_xor x y) ≡ bit_xor (next x) (next y)
odd_even x y x_odd y_even =
    next_odd (bit_xor x y) (omega (arith, xor_low x y, x_odd, y_even)) ∙ ap (λ h. bit_xor h polynomial) (xor_half x y)
    ∙ xor_swapped (x / 2) (y / 2) polynomial
    ∙ ap₂ bit_xor (sym (next_odd x x_odd)) (sym (next_even y y_even))

even_even : (x y : ℕ) → x % 2 ≡ 0 → y % 2 ≡ 0 → next (bit_xor x y) ≡ bit_xor (next x) (next y)
even_even x y x_even y_even =
    next_even (bit_xor x y) (omega (arith, xor_low x y, x_even, y_even)) ∙ xor_half x y
    ∙ ap₂ bit_xor (sym (next_even x x_even)) (sym (next_even y y_even))

pub next_both : (x y : ℕ) → next (bit_xor x y) ≡ bit_xor (next x) (next y)
next_both x y = elim (is_even x) [
  | inl x_odd ↦ elim (is_even y) [
    | inl y_odd ↦ odd_odd x y x_odd y_odd
    | inr y_even ↦ odd_even x y x_odd y_even
  ]
  | inr x_even ↦ elim (is_even y) [
    | inl y_odd ↦ ap next (xor_comm x y) ∙ odd_even y x y_odd x_even ∙ xor_comm (next y) (next x)
    | inr y_even ↦ even_even x y x_even y_even
  ]
]

-- ---- several bits fall out

pub nexts_both : (n x y : ℕ) → nexts n (bit_xor x y) ≡ bit_xor (nexts n x) (nexts n y)
unfolding nexts
nexts_both zero x y = refl
nexts_both (suc n) x y = ap (nexts n) (next_both x y) ∙ nexts_both n (next x) (next y)

pub nexts_lt : (n c : ℕ) → c < 2 ^ 32 → nexts n c < 2 ^ 32
unfolding nexts
nexts_lt zero c fits = fits
nexts_lt (suc n) c fits = nexts_lt n (next c) (next_lt c fits)

pub nexts_same : (n a b : ℕ) → a < 2 ^ 32 → b < 2 ^ 32 → nexts n a ≡ nexts n b → a ≡ b
unfolding nexts
nexts_same zero a b a_fits b_fits e = e
nexts_same (suc n) a b a_fits b_fits e
    = next_same a b a_fits b_fits (nexts_same n (next a) (next b) (next_lt a a_fits) (next_lt b b_fits) e)

pub next_xor_bit : (x y : ℕ) → next (bit_xor x (2 * y)) ≡ bit_xor (next x) y
next_xor_bit = next_xor

pub nexts_xor : (n x y : ℕ) → nexts n (bit_xor x (y * 2 ^ n)) ≡ bit_xor (nexts n x) y
unfolding nexts
nexts_xor zero x y = ap (bit_xor x) (omega arith)
nexts_xor (suc n) x y =
    let twice : y * 2 ^ suc n ≡ 2 * (y * 2 ^ n) = omega (arith, ap (λ p. y * p) (pow-suc 2 n)) in
    ap (λ p. nexts n (next (bit_xor x p))) twice ∙ ap (nexts n) (next_xor x (y * 2 ^ n)) ∙ nexts_xor n (next x) y

pub nexts_add : (n m x : ℕ) → nexts m (nexts n x) ≡ nexts (n + m) x
unfolding nexts
nexts_add zero m x = let e : m ≡ 0 + m = omega arith in ap (λ k. nexts k x) e
nexts_add (suc n) m x = let e : suc (n + m) ≡ suc n + m = omega arith in nexts_add n m (next x) ∙ ap (λ k. nexts k x) e

next_none : next 0 ≡ 0
unfolding next
next_none = refl

nexts_none : (n : ℕ) → nexts n 0 ≡ 0
unfolding nexts
nexts_none zero = refl
nexts_none (suc n) = ap (nexts n) next_none ∙ nexts_none n

-- zeros fall out
nexts_high : (n y : ℕ) → nexts n (y * 2 ^ n) ≡ y
nexts_high n y = ap (nexts n) (sym (xor_zero_l (y * 2 ^ n))) ∙ nexts_xor n 0 y ∙ ap (λ z. bit_xor z y) (nexts_none n)
    ∙ xor_zero_l y

-- the low byte and the rest fall out apart
pub nexts_split : (k x : ℕ) → nexts (8 + k) x ≡ bit_xor (nexts (8 + k) (x % 256)) (nexts k (x / 256))
nexts_split k x =
    let parts : x ≡ x % 256 + x / 256 * 2 ^ 8 = omega arith in
    ap (nexts (8 + k)) (parts ∙ sym (xor_beside 8 (x % 256) (x / 256) (omega arith)))
    ∙ nexts_both (8 + k) (x % 256) (x / 256 * 2 ^ 8)
    ∙ ap (bit_xor (nexts (8 + k) (x % 256)))
    (sym (nexts_add 8 k (x / 256 * 2 ^ 8)) ∙ ap (nexts k) (nexts_high 8 (x / 256)))

-- a byte is taken in once so many bits have fallen out
pub nexts_more : (n x b : ℕ) → nexts 8 (bit_xor (nexts n x) b) ≡ nexts (n + 8) (bit_xor x (b * 2 ^ n))
nexts_more n x b = ap (nexts 8) (sym (nexts_xor n x b)) ∙ nexts_add n 8 (bit_xor x (b * 2 ^ n))
