-- Replies that are printed one after another.
use Rattle.std.proofs.Common.{◌≡◌, ℕ, suc, ◌+◌, ◌<◌, ◌≤◌, List, [], ◌∷◌, ◌++◌, length, drop, drop-cons}
use Rattle.std.proofs.Common.{drop_of_length-le, get_or, add-one, sym, ◌∙◌, ap, subst}
use Rattle.gd_effects.specs.Effects.{Effect}
use Rattle.gd_lines.specs.declared.reply.Reply.{Reply}
use Rattle.gd_reference.specs.Said.{all_said, says}

-- what is left of them behind so many
abbrev pub said_from : ℕ → List Reply → List Effect
said_from i replies = all_said (drop i replies)

-- the next one of a loop
pub at_item : {A : Type 0} (xs : List A) (i : ℕ) (x : A) → i < length xs → x ≡ get_or xs i x
    → drop i xs ≡ x ∷ drop (i + 1) xs
at_item xs i x below is = drop-cons xs i x below ∙ ap (λ z. z ∷ drop (suc i) xs) (sym is)
    ∙ ap (λ k. x ∷ drop k xs) (sym (add-one i))

pub said_next : (i : ℕ) (replies items : List Reply) (x : Reply) → items ≡ replies → x ≡ get_or items i x
    → i < length items
    → said_from i replies ≡ (says x ∷ []) ++ said_from (i + 1) replies
said_next i replies items x same is below =
    ap (said_from i) (sym same) ∙ ap all_said (at_item items i x below is) ∙ ap (λ l. says x ∷ said_from (i + 1) l) same

pub said_last : (i : ℕ) (replies items : List Reply) → items ≡ replies → length items ≤ i → said_from i replies ≡ []
said_last i replies items same all
    = ap all_said (drop_of_length-le replies (subst (λ (l : List Reply). length l ≤ i) same all))
