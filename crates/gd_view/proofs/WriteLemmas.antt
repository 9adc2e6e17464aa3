-- The text of a picture, line by line.
use Rattle.std.proofs.Common.{◌≡◌, ℕ, ◌+◌, ◌<◌, ◌≤◌, List, [], ◌∷◌, ◌++◌, length, get_or, drop, map, refl, sym, add-one}
use Rattle.std.proofs.Common.{drop-cons}
use Rattle.std.proofs.Math.ListN.{drop_of_length-le}
use Rattle.gd_base.specs.declared.item.Item.{Item}
use Rattle.gd_lines.specs.Text.{item_line, end_line, lines}
use Rattle.gd_effects.specs.Effects.{Effect, Print}

-- what is printed of a picture behind its first i lines
unfoldable pub lines_from : ℕ → List Item → List Effect
lines_from i is = map Print (map item_line (drop i is) ++ end_line (length is) ∷ [])

-- at first all is left
pub lines_from-all : (is : List Item) → map Print (lines is) ≡ lines_from 0 is
unfolding lines_from
lines_from-all is = refl

-- the line of the next item comes next
pub lines_from-item : (i : ℕ) (is items : List Item) (item : Item) (line : List ℕ) → items ≡ is
    → item ≡ get_or items i item → i < length items → line ≡ item_line item
    → lines_from i is ≡ Print line ∷ lines_from (i + 1) is
unfolding lines_from
lines_from-item i is items item line same found lt made =
    let below : i < length is = rw same at lt in
    let here : get_or is i item ≡ item = sym (rw same at found) in
    rw (add-one, drop-cons is i item below, here, made) refl

-- the last line
pub lines_from-last : (i count : ℕ) (is : List Item) (line : List ℕ) → length is ≤ i → count ≡ length is
    → line ≡ end_line count → lines_from i is ≡ Print line ∷ []
unfolding lines_from
lines_from-last i count is line le all made = rw (drop_of_length-le is le, made, all) refl
