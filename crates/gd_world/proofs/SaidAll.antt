-- Replies are printed one after the other.
use Rattle.std.proofs.Common.{◌≡◌, ℕ, ◌+◌, ◌<◌, List, [], ◌∷◌, ◌++◌, length, map, take, drop, get_or, sym, ◌∙◌, ap}
use Rattle.std.proofs.Common.{append_assoc, take-append-drop}
use Rattle.std.proofs.lemmas.List.{map-append, take_more}
use Rattle.gd_effects.specs.Effects.{Print}
use Rattle.gd_lines.specs.Replies.{reply_text}
use Rattle.gd_lines.specs.declared.reply.Reply.{Reply}
use Rattle.gd_reference.specs.Said.{all_said}

said-append : (xs ys : List Reply) → all_said (xs ++ ys) ≡ all_said xs ++ all_said ys
said-append xs ys = ap (map Print) (map-append reply_text xs ys)
    ∙ map-append Print (map reply_text xs) (map reply_text ys)

module _ (replies : List Reply) (k : ℕ) (x : Reply) (line : List ℕ) (inside : k < length replies)
    (is : x ≡ get_or replies k x) (spelled : line ≡ reply_text x) where
  -- one more
  pub said_more : all_said (take (k + 1) replies) ≡ all_said (take k replies) ++ Print line ∷ []
  said_more =
      ap all_said (take_more replies k x inside) ∙ said-append (take k replies) (get_or replies k x ∷ [])
      ∙ ap (λ text. all_said (take k replies) ++ Print text ∷ []) (sym (spelled ∙ ap reply_text is))

  -- that one, and then the rest
  pub said_split : all_said replies ≡ all_said (take k replies) ++ (Print line ∷ [] ++ all_said (drop (k + 1) replies))
  said_split =
      ap all_said (sym (take-append-drop (k + 1) replies)) ∙ said-append (take (k + 1) replies) (drop (k + 1) replies)
      ∙ ap (λ xs. xs ++ all_said (drop (k + 1) replies)) said_more
      ∙ append_assoc (all_said (take k replies)) (Print line ∷ []) (all_said (drop (k + 1) replies))
