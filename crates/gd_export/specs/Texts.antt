-- The texts of the items of an array and of the members of an object.
use Rattle.std.specs.Prelude.{ℕ, Bool, true, ◌&&◌, not, nat_le, List, [], ◌∷◌}
use Rattle.std.specs.List.{list_all}
use Rattle.serde_json.specs.Data.{Items, no_items, item, Members, no_members, member}
use Rattle.serde_json.specs.Written.{compact_text, has_float}
use Rattle.gd_json.specs.Values.{Field, is_marked}

-- a text that needs no marks
abbrev pub is_quiet : List ℕ → Bool
is_quiet text = list_all (λ b. nat_le 32 b && not (is_marked b)) text

unfoldable pub texts_of : Items → List (List ℕ)
texts_of no_items = []
texts_of (item d ds) = compact_text d ∷ texts_of ds

unfoldable pub fields_of : Members → List Field
fields_of no_members = []
fields_of (member k d ms) = (k, compact_text d) ∷ fields_of ms

-- no key needs marks, and no value has a float
unfoldable pub is_written : Members → Bool
is_written no_members = true
is_written (member k d ms) = (is_quiet k && not (has_float d)) && is_written ms
