-- The counts of a churn, one reply after the other, and their bounds.
use Rattle.std.proofs.Common.{◌≡◌, ℕ, ◌+◌, ◌<◌, ◌≤◌, List, length, take, get_or, fold, sym, ◌∙◌, ap₂, subst, arith}
use Rattle.std.proofs.lemmas.List.Sums.{fold_more}
use Rattle.gd_lines.specs.declared.reply.Reply.{Reply}
use Rattle.gd_world.specs.Counted.{AreFew}
use Rattle.gd_worlds.specs.Churn.{Counts}

pub few_as : {a : ℕ} {c : Counts} (b : ℕ) → a ≡ b → AreFew a c → AreFew b c
few_as {c = c} b e h = subst (λ n. AreFew n c) e h

-- a larger bound
pub few_more : {a : ℕ} {c : Counts} (b : ℕ) → a ≤ b → AreFew a c → AreFew b c
few_more b more h = record { all = omega arith; undone = omega arith }

-- one reply more was counted
pub counted_more : (first now next : Counts) (x : Reply) (f : Counts → Reply → Counts) (xs : List Reply) (k : ℕ)
    (d : Reply) → k < length xs → x ≡ get_or xs k d
    → now ≡ fold f first (take k xs) → next ≡ f now x → next ≡ fold f first (take (k + 1) xs)
counted_more first now next x f xs k d inside is so_far more = more ∙ ap₂ f so_far is
    ∙ sym (fold_more f first xs k d inside)
