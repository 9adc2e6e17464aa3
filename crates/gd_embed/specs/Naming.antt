-- The bytes of names.
use Rattle.std.specs.Prelude.{ℕ, List, [], Option, Some, None}

abbrev pub name_of : Option (List ℕ) → List ℕ
name_of None = []
name_of (Some name) = name
