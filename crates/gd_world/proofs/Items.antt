-- What is said of items, one after another, and then how many they are.
use Rattle.std.proofs.Common.{◌≡◌, ℕ, ◌+◌, ◌<◌, ◌≤◌, List, [], ◌∷◌, ◌++◌, length, map, take, take_all, get_or, sym, ◌∙◌}
use Rattle.std.proofs.Common.{ap}
use Rattle.std.proofs.lemmas.List.{map_more}
use Rattle.gd_lines.specs.declared.reply.Reply.{Reply}
use Rattle.gd_lines.specs.declared.reply.Reply.TheVariants as reply

module _ {A : Type 0} (says : A → Reply) (items : List A) (i : ℕ) (replies : List Reply)
    (now : replies ≡ map says (take i items)) where
  pub items_next : (all : List Reply) (item : A) (said : Reply) → said ≡ says item → item ≡ get_or items i item
      → i < length items → all ≡ replies ++ said ∷ [] → all ≡ map says (take (i + 1) items)
  items_next all item said same found lt is =
      is ∙ ap (λ x. replies ++ x ∷ []) (same ∙ ap says found) ∙ ap (λ rs. rs ++ says (get_or items i item) ∷ []) now
      ∙ sym (map_more says items i item lt)

  pub items_all : (all : List Reply) → length items ≤ i → all ≡ replies ++ reply.End (length items) ∷ []
      → all ≡ map says items ++ reply.End (length items) ∷ []
  items_all all over is = is
      ∙ ap (λ rs. rs ++ reply.End (length items) ∷ []) (now ∙ ap (map says) (take_all i items over))
