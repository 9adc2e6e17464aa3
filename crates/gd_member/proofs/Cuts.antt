-- Where the first line of bytes ends.
use Rattle.std.proofs.Common.{◌≡◌, ℕ, suc, ◌+◌, ◌≤◌, Bool, true, false, cond, List, [], ◌∷◌, drop, length, take, Some}
use Rattle.std.proofs.Common.{None, nat_lt, not, refl, ◌∙◌, ap, arith}
use Rattle.std.proofs.lemmas.Bool.Decides.{nat_tests}
use Rattle.std.proofs.lemmas.List.Sums.{prefix_len-le-length}
use Rattle.std.specs.List.{position, position_or_len}
use Rattle.std.specs.Option.{unwrap_or}
use Rattle.gd_member.specs.Cutting.{is_lf, line_end}
use Rattle.gd_reference.specs.InputLines.{lines_of, onto}

by_test : (b : Bool) (i n : ℕ) → nat_lt i n ≡ b → i ≤ n → unwrap_or (cond b (Some i) None) n ≡ i
by_test true i n t le = refl
by_test false i n t le = grind (arith, nat_tests)

pub or_end : {X : Type 0} (p : X → Bool) (xs : List X) → unwrap_or (position p xs) (length xs) ≡ position_or_len p xs
or_end p xs = by_test _ (position_or_len p xs) (length xs) refl (prefix_len-le-length _ xs)

-- the first line, and those behind its line feed
pub line_first : (byte : ℕ) (bytes : List ℕ)
    → lines_of (byte ∷ bytes) ≡ take (line_end (byte ∷ bytes)) (byte ∷ bytes) ∷ lines_of
    (drop (line_end (byte ∷ bytes) + 1) (byte ∷ bytes))
unfolding lines_of
line_first byte [] = by (is_lf byte)
  where
    by : (b : Bool)
        → cond b ([] ∷ []) ((byte ∷ []) ∷ []) ≡ take (cond (not b) 1 0) (byte ∷ []) ∷ lines_of
        (drop (cond (not b) 1 0 + 1) (byte ∷ []))
    by true = refl
    by false = refl
line_first byte (next ∷ bytes) = by (is_lf byte) (line_first next bytes)
  where
    end : ℕ
    end = line_end (next ∷ bytes)

    by : (b : Bool) → lines_of (next ∷ bytes) ≡ take end (next ∷ bytes) ∷ lines_of (drop (end + 1) (next ∷ bytes))
        → cond b ([] ∷ lines_of (next ∷ bytes)) (onto byte (lines_of (next ∷ bytes)))
        ≡ take (cond (not b) (1 + end) 0) (byte ∷ next ∷ bytes)
        ∷ lines_of (drop (cond (not b) (1 + end) 0 + 1) (byte ∷ next ∷ bytes))
    by true is = refl
    by false is =
        let one : suc end ≡ 1 + end = omega arith in
        let two : suc (end + 1) ≡ 1 + end + 1 = omega arith in
        ap (onto byte) is ∙ (λ i. take (one i) (byte ∷ next ∷ bytes) ∷ lines_of (drop (two i) (byte ∷ next ∷ bytes)))
