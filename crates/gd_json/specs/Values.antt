-- JSON as bytes. It is compact: nothing stands between its parts. An object is a list of fields, each a key and a value
-- that is written already.
use Rattle.std.specs.Prelude.{ℕ, Bool, true, false, ◌||◌, ◌==◌, List, [], ◌∷◌, ◌++◌, map, flat_map, codes}
use Rattle.std.specs.Prelude.{if◌then◌else◌}
use Rattle.std.specs.Cmp.Lexicographic.{slice_cmp}
use Rattle.std.specs.List.{fold}
use Rattle.std.specs.Ordering.{match_ordering, nat_cmp}

-- a quote or a backslash
abbrev pub is_marked : ℕ → Bool
is_marked b = (b == 34) || (b == 92)

-- a byte of a label, behind a backslash where it needs one; a line feed is a backslash and an n
abbrev pub marked : ℕ → List ℕ
marked b = if is_marked b then 92 ∷ b ∷ [] else if b == 10 then 92 ∷ 110 ∷ [] else b ∷ []

-- a string of a label, which can hold no other control character: all else stands as it is
abbrev pub quoted : List ℕ → List ℕ
quoted text = codes "\"" ++ flat_map marked text ++ codes "\""

-- a string that needs no marks
abbrev pub plain : List ℕ → List ℕ
plain text = codes "\"" ++ text ++ codes "\""

abbrev pub null : List ℕ
null = codes "null"

abbrev pub flag : Bool → List ℕ
flag false = codes "false"
flag true = codes "true"

abbrev pub behind_commas : List (List ℕ) → List ℕ
behind_commas [] = []
behind_commas (value ∷ values) = codes "," ++ value ++ behind_commas values

abbrev pub with_commas : List (List ℕ) → List ℕ
with_commas [] = []
with_commas (value ∷ values) = value ++ behind_commas values

abbrev pub array : List (List ℕ) → List ℕ
array values = codes "[" ++ with_commas values ++ codes "]"

-- a key, and its value
abbrev pub Field : Type 0
Field = List ℕ × List ℕ

-- one field more, in the order of the bytes of the keys. A key stands once, with its last value
unfoldable pub put_field : List Field → Field → List Field
put_field [] f = f ∷ []
put_field (g ∷ gs) f = match_ordering (slice_cmp nat_cmp f.0 g.0) (f ∷ g ∷ gs) ((g.0, f.1) ∷ gs) (g ∷ put_field gs f)

abbrev pub put_all : List Field → List Field → List Field
put_all fields fs = fold put_field fields fs

abbrev pub in_order : List Field → List Field
in_order fs = put_all [] fs

abbrev pub field : Field → List ℕ
field f = plain f.0 ++ codes ":" ++ f.1

abbrev pub object : List Field → List ℕ
object fields = codes "{" ++ with_commas (map field fields) ++ codes "}"
