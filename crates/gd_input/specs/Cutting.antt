-- How a line is cut off the front of bytes.
use Rattle.std.specs.Prelude.{◌≡◌, ◌≢◌, ℕ, ◌+◌, ◌<◌, ◌≤◌, Bool, true, false, List, [], ◌∷◌, ◌++◌, All, length, take}
use Rattle.std.specs.Prelude.{drop}
use Rattle.gd_reference.specs.InputLines.{lf, longest_input_line}
use Rattle.gd_input.specs.declared.next.Next.{Next}
use Rattle.gd_input.specs.declared.next.Next.TheVariants.{Line, TooLong, Finished}

abbrev pub HasNoLf : List ℕ → Type 0
HasNoLf bytes = All (λ byte. byte ≢ lf) bytes

-- the first LF is here
pub record IsLineEnd (bytes : List ℕ) (end : ℕ) : Type 0 where
  pub within : end < length bytes
  pub here : bytes ≡ take end bytes ++ lf ∷ drop (end + 1) bytes
  pub before : HasNoLf (take end bytes)

-- these bytes are a line, its LF, and the rest; or they are the last line, which has no LF
abbrev pub IsSplit : Bool → List ℕ → List ℕ → List ℕ → Type 0
IsSplit false bytes line rest = bytes ≡ line ++ lf ∷ rest
IsSplit true bytes line rest = (bytes ≡ line) × (0 < length line) × (rest ≡ [])

-- a line that isn't too long was cut off the front, and read
pub record CutsLine {A : Type 0} (read : List ℕ → A) (bytes : List ℕ)
    (meaning : A) (is_last : Bool) (rest : List ℕ) : Type 0 where
  pub line : List ℕ
  pub split : IsSplit is_last bytes line rest
  pub one : HasNoLf line
  pub fits : length line ≤ longest_input_line
  pub is : meaning ≡ read line

-- the first line is too long
pub record BeginsTooLong (bytes : List ℕ) : Type 0 where
  pub front : List ℕ
  pub more : List ℕ
  pub split : bytes ≡ front ++ more
  pub one : HasNoLf front
  pub long : longest_input_line < length front

-- what comes first in these bytes, and what is left of them
abbrev pub Cuts : {A : Type 0} → (List ℕ → A) → List ℕ → Next A → List ℕ → Type 0
Cuts read bytes (Line meaning is_last) rest = CutsLine read bytes meaning is_last rest
Cuts read bytes TooLong rest = BeginsTooLong bytes × (rest ≡ bytes)
Cuts read bytes Finished rest = (bytes ≡ []) × (rest ≡ [])

-- nothing more is to be read behind this
abbrev pub is_end : {A : Type 0} → Next A → Bool
is_end (Line meaning is_last) = is_last
is_end TooLong = false
is_end Finished = true
