-- An array whose first items are written.
use Rattle.std.specs.Prelude.{◌≡◌, ℕ, Bool, true, false, List, [], ◌∷◌, ◌++◌, codes, string_bytes, if◌then◌else◌}
use Rattle.gd_json.specs.Values.{with_commas}
use Rattle.gd_export.specs.declared.array.ArrayText.{ArrayText}

abbrev pub has_none : List (List ℕ) → Bool
has_none [] = true
has_none (text ∷ texts) = false

-- what stands in front of an item
abbrev pub separator : Bool → List ℕ
separator is_first = if is_first then [] else codes ","

-- these items are written, and the array isn't closed
pub record IsBegun (array : ArrayText) (texts : List (List ℕ)) : Type 0 where
  pub text : string_bytes array.text ≡ codes "[" ++ with_commas texts
  pub is_empty : array.is_empty ≡ has_none texts
