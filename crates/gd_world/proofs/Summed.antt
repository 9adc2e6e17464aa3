-- What is said of the four sites of a churn, one after the other.
use Rattle.std.proofs.Common.{◌≡◌, ℕ, zero, suc, ◌+◌, ◌<◌, List, [], ◌∷◌, ◌++◌, map, take, refl, arith}
use Rattle.gd_lines.specs.declared.reply.Reply.{Reply}

abbrev pub four : List ℕ
four = 1 ∷ 2 ∷ 3 ∷ 4 ∷ []

pub four_more : (f : ℕ → Reply) (k : ℕ) → k < 4 → map f (take k four) ++ f (k + 1) ∷ [] ≡ map f (take (k + 1) four)
four_more f zero h = refl
four_more f (suc zero) h = refl
four_more f (suc (suc zero)) h = refl
four_more f (suc (suc (suc zero))) h = refl
four_more f (suc (suc (suc (suc k)))) h = absurd (omega arith)
