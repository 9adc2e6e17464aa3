-- What a function that reads or writes a part of a line did, by the definitions of that line.
use Rattle.std.specs.Prelude.{◌≡◌, ℕ, ◌<◌, List, [], ◌∷◌, ◌++◌, Bool, ◌&&◌, ◌==◌, Option, Some, None, IfSome, length}
use Rattle.std.specs.Prelude.{nat_le, if◌then◌else◌}
use Rattle.std.specs.Bool.{then_some}
use Rattle.std.specs.Option.{option_map}
use Rattle.gd_base.specs.Labels.{is_text, most_label}
use Rattle.gd_base.specs.Stamps.{Stamp}
use Rattle.gd_lines.specs.OpText.{command_text, spaced}
use Rattle.gd_lines.specs.WordKinds.{unescaped}

-- the name of a part of a look, in the words of its line or of a style
abbrev pub named_text : Option Stamp → List ℕ → List ℕ
named_text None name = spaced name
named_text (Some id) name = command_text name id

-- a name and a value
abbrev pub led_text : Option Stamp → List ℕ × List ℕ → List ℕ
led_text id p = named_text id p.0 ++ spaced p.1

-- a part of a look, where it is set
abbrev pub part_text : {A : Type 0} → Option Stamp → List ℕ → (A → List ℕ) → Option A → List ℕ
part_text id name text None = []
part_text id name text (Some value) = named_text id name ++ spaced (text value)

-- what a byte behind a backslash stands for
abbrev pub escape_of : ℕ → Option ℕ
escape_of b = if b == 110 then Some 10 else if b == 92 then Some 92 else None

-- the bytes so far, and what is read of those that are left
abbrev pub typed_with : List ℕ → Bool → List ℕ → Option (List ℕ)
typed_with bytes behind rest = option_map (λ more. bytes ++ more) (unescaped behind rest)

-- one byte of a label was read, behind a backslash or not
abbrev pub IsTyped : List ℕ → Bool → ℕ → Bool → List ℕ → Type 0
IsTyped bytes behind byte next more =
    (rest : List ℕ) → typed_with bytes behind (byte ∷ rest) ≡ typed_with more next rest

-- whatever follows the byte, this is no label
abbrev pub IsNoLabel : List ℕ → Bool → ℕ → Type 0
IsNoLabel bytes behind byte =
    (rest : List ℕ) → IfSome (typed_with bytes behind (byte ∷ rest)) (λ text. most_label < length text)

-- the text, where it is a label
abbrev pub label_of : List ℕ → Option (List ℕ)
label_of text = then_some (nat_le (length text) most_label && is_text text) text
