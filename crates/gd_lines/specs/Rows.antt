-- Lines by rows, one for each name that a line may begin with. The faults of a line come in one order: it has more than
-- 1,024 bytes; its first word is no row's name; it has too few or too many words; and then its words from left to
-- right.
use Rattle.std.specs.Prelude.{ℕ, ◌-◌, List, [], ◌∷◌, Bool, ◌&&◌, Result, Ok, Err, length, ◌==◌, nat_le, nat_lt}
use Rattle.std.specs.Prelude.{if◌then◌else◌}
use Rattle.std.specs.Str.{bytes_eq}
use Rattle.gd_base.specs.declared.refusal.LineFault.{LineFault}
use Rattle.gd_base.specs.declared.refusal.LineFault.TheVariants.{LongLine, UnknownCommand, WrongCount}
use Rattle.gd_lines.specs.declared.command.TheConstants.{LONGEST_LINE}
use Rattle.gd_lines.specs.LineWords.{word, behind, count_words}
use Rattle.gd_lines.specs.Reading.{Reader, fault, first_of}

-- a name, exact to the byte, how many words may follow it, and how so many are read
pub record Row (A : Type 0) : Type 0 where
  pub name : List ℕ
  pub fits : ℕ → Bool
  pub words : ℕ → Reader A

abbrev pub row : {A : Type 0} → List ℕ → (ℕ → Bool) → (ℕ → Reader A) → Row A
row name fits words = record { name = name; fits = fits; words = words }

-- ---- how many words

abbrev pub exactly : ℕ → ℕ → Bool
exactly count n = n == count

abbrev pub at_least : ℕ → ℕ → Bool
at_least low n = nat_le low n

abbrev pub from_to : ℕ → ℕ → ℕ → Bool
from_to low high n = nat_le low n && nat_le n high

-- ---- the row of a name

abbrev pub counted : {A : Type 0} → Row A → ℕ → Result (Reader A) LineFault
counted r n = if r.fits n then Ok (r.words n) else Err WrongCount

-- how the `n` words behind a name are read, or why they aren't
unfoldable pub by_name : {A : Type 0} → List (Row A) → List ℕ → ℕ → Result (Reader A) LineFault
by_name [] name n = Err UnknownCommand
by_name (r ∷ rs) name n = if bytes_eq name r.name then counted r n else by_name rs name n

abbrev pub reader_of : {A : Type 0} → Result (Reader A) LineFault → Reader A
reader_of (Ok words) = words
reader_of (Err why) = fault why

-- what the line asks for; without a word it asks for `nothing`
abbrev pub line_by : {A : Type 0} → List (Row A) → A → List ℕ → Result A LineFault
line_by rows nothing line =
    if nat_lt LONGEST_LINE (length line) then Err LongLine
    else if count_words line == 0 then Ok nothing
    else first_of (reader_of (by_name rows (word line) (count_words line - 1)) (behind line))
