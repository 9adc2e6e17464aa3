-- An array that is written item by item.
use Rattle.std.proofs.Common.{◌≡◌, ◌∙◌, ℕ, Bool, false, List, [], ◌∷◌, ◌++◌, map, refl, sym, ap, ap₂, append_assoc}
use Rattle.std.proofs.Common.{codes, subst, take, get_or, length, ◌+◌, ◌<◌}
use Rattle.std.proofs.lemmas.List.{append-nil, map_more}
use Rattle.std.specs.Prelude.{Result, Ok, Err, OnOk, is_ok, if◌then◌else◌, string_bytes}
use Rattle.gd_json.specs.Values.{array, behind_commas, with_commas}
use Rattle.gd_export.specs.Begun.{IsBegun, has_none, separator}
use Rattle.gd_export.specs.declared.array.ArrayText.{ArrayText}

one_behind : (texts : List (List ℕ)) (text : List ℕ)
    → behind_commas (texts ++ text ∷ []) ≡ behind_commas texts ++ 44 ∷ text
one_behind [] text = ap (λ (x : List ℕ). 44 ∷ x) (rw (append-nil text) refl)
one_behind (t ∷ texts) text = ap (λ (x : List ℕ). 44 ∷ t ++ x) (one_behind texts text)
    ∙ ap (λ (x : List ℕ). 44 ∷ x) (sym (append_assoc t (behind_commas texts) (44 ∷ text)))

-- one item more
one_more : (texts : List (List ℕ)) (text : List ℕ)
    → with_commas (texts ++ text ∷ []) ≡ with_commas texts ++ (separator (has_none texts) ++ text)
one_more [] text = rw (append-nil text) refl
one_more (t ∷ texts) text = ap (λ (x : List ℕ). t ++ x) (one_behind texts text)
    ∙ sym (append_assoc t (behind_commas texts) (44 ∷ text))

none_behind : (texts : List (List ℕ)) (text : List ℕ) → has_none (texts ++ text ∷ []) ≡ false
none_behind [] text = refl
none_behind (t ∷ texts) text = refl

begun_more : (old new : ArrayText) (texts : List (List ℕ)) (text : List ℕ) → IsBegun old texts
    → string_bytes new.text ≡ (string_bytes old.text ++ separator old.is_empty) ++ text → new.is_empty ≡ false
    → IsBegun new (texts ++ text ∷ [])
begun_more old new texts text h pushed more = record {
  text =
      pushed ∙ append_assoc (string_bytes old.text) (separator old.is_empty) text
      ∙ ap₂ (λ (x : List ℕ) (b : Bool). x ++ (separator b ++ text)) h.text h.is_empty
      ∙ append_assoc (codes "[") (with_commas texts) (separator (has_none texts) ++ text)
      ∙ ap (λ (x : List ℕ). codes "[" ++ x) (sym (one_more texts text));
  is_empty = more ∙ sym (none_behind texts text);
}

-- where the item's text could be put behind what stands in front of it
pub put_if : {A E : Type 0} (r : Result A E) (old new : ArrayText) (texts : List (List ℕ))
    (text separated written : List ℕ) → IsBegun old texts
    → string_bytes new.text ≡ (if is_ok r then separated ++ written else separated)
    → separated ≡ string_bytes old.text ++ separator old.is_empty
    → written ≡ text → new.is_empty ≡ false → OnOk r (IsBegun new (texts ++ text ∷ []))
put_if (Ok x) old new texts text separated written begun pushed front same next =
    begun_more old new texts text begun (pushed ∙ ap₂ (λ (x y : List ℕ). x ++ y) front same) next
put_if (Err e) old new texts text separated written begun pushed front same next = tt

-- one item of a list more
pub begun_next : {X : Type 0} (f : X → List ℕ) (xs : List X) (i : ℕ) (x : X) (array : ArrayText)
    → IsBegun array (map f (take i xs) ++ f x ∷ [])
    → x ≡ get_or xs i x → i < length xs → IsBegun array (map f (take (i + 1) xs))
begun_next f xs i x array h found lt =
    let same : map f (take (i + 1) xs) ≡ map f (take i xs) ++ f x ∷ [] = map_more f xs i x lt
    ∙ ap (λ y. map f (take i xs) ++ f y ∷ []) (sym found) in
    subst (λ (ts : List (List ℕ)). IsBegun array ts) (sym same) h
