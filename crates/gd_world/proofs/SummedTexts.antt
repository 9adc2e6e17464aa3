-- The text of a drawing, one line after the other.
use Rattle.std.proofs.Common.{◌≡◌, ℕ, ◌+◌, ◌<◌, List, [], ◌∷◌, ◌++◌, length, map, take, get_or, sym, ◌∙◌, ap, ap₂}
use Rattle.std.proofs.Common.{append_assoc}
use Rattle.std.proofs.lemmas.List.{append-nil, take_more}
use Rattle.std.specs.List.{concat}
use Rattle.gd_base.specs.declared.item.Item.{Item}
use Rattle.gd_lines.specs.Replies.{reply_text}
use Rattle.gd_lines.specs.declared.reply.Reply.{Reply}
use Rattle.gd_lines.specs.declared.reply.Reply.TheVariants as reply

-- the lines of items
abbrev pub item_texts : List Item → List ℕ
item_texts items = concat (map reply_text (map reply.Item items))

-- and a last line
pub texts_end : (items : List Item) (last : Reply)
    → concat (map reply_text (map reply.Item items ++ last ∷ [])) ≡ item_texts items ++ reply_text last
texts_end [] last = append-nil (reply_text last)
texts_end (x ∷ items) last =
    ap (λ text. reply_text (reply.Item x) ++ text) (texts_end items last)
    ∙ sym (append_assoc (reply_text (reply.Item x)) (item_texts items) (reply_text last))

texts_push : (items : List Item) (x : Item)
    → item_texts (items ++ x ∷ []) ≡ item_texts items ++ reply_text (reply.Item x)
texts_push [] x = append-nil (reply_text (reply.Item x))
texts_push (y ∷ items) x =
    ap (λ text. reply_text (reply.Item y) ++ text) (texts_push items x)
    ∙ sym (append_assoc (reply_text (reply.Item y)) (item_texts items) (reply_text (reply.Item x)))

-- one line more
pub texts_more : (items : List Item) (k : ℕ) (x y : Item) (old new : List ℕ) → k < length items → x ≡ get_or items k x
    → y ≡ x
    → old ≡ item_texts (take k items) → new ≡ old ++ reply_text (reply.Item y) → new ≡ item_texts (take (k + 1) items)
texts_more items k x y old new inside is copied so_far more =
    more ∙ ap₂ (λ text (z : Item). text ++ reply_text (reply.Item z)) so_far (copied ∙ is)
    ∙ sym (texts_push (take k items) (get_or items k x))
    ∙ ap item_texts (sym (take_more items k x inside))
