-- The site of an id, from 1 to 16, by its digits.
use Rattle.std.proofs.Common.{◌≡◌, ℕ, ◌+◌, ◌-◌, ◌<◌, ◌≤◌, ◌/◌, ◌%◌, List, [], ◌∷◌, ◌++◌, codes, append_assoc, refl}
use Rattle.std.proofs.Common.{arith, lit<}
use Rattle.std.specs.Fmt.{decimal}
use Rattle.std.proofs.lemmas.Fmt.{decimal_digit, decimal_step}

pub one_digit : (text : List ℕ) (site : ℕ) → site < 10
    → text ++ 46 ∷ [] ++ (48 + site) ∷ [] ≡ text ++ codes "." ++ decimal site
one_digit text site few = rw (decimal_digit site few) refl

two : (site : ℕ) → 10 ≤ site → site ≤ 16 → decimal site ≡ 49 ∷ (48 + (site - 10)) ∷ []
two site long few =
    let tens : site / 10 ≡ 1 = omega (arith, long, few) in
    let ones : 48 + site % 10 ≡ 48 + (site - 10) = omega (arith, long, few) in
    rw (decimal_step site long (omega (arith, few)), tens, ones, decimal_digit 1 (lit< tt)) refl

pub two_digits : (text : List ℕ) (site : ℕ) → 10 ≤ site → site ≤ 16
    → text ++ 46 ∷ [] ++ 49 ∷ [] ++ (48 + (site - 10)) ∷ [] ≡ text ++ codes "." ++ decimal site
two_digits text site long few = rw (two site long few) (simp append_assoc)
