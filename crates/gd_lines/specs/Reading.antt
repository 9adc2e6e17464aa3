-- Reading words from left to right: a reading gives a value and the bytes behind it, or the first fault.
use Rattle.std.specs.Prelude.{ℕ, List, Option, Some, None, Result, Ok, Err}
use Rattle.gd_base.specs.Results.{◌>>=◌}
use Rattle.gd_base.specs.declared.refusal.LineFault.{LineFault}
use Rattle.gd_lines.specs.LineWords.{word, behind}

-- what is read, and the bytes behind it
abbrev pub ReadsWords : Type 0 → Type 0
ReadsWords A = Result (A × List ℕ) LineFault

-- what reads an A from a line
abbrev pub Reader : Type 0 → Type 0
Reader A = List ℕ → ReadsWords A

-- what follows gets the value
unfoldable pub then_at : {A B : Type 0} → Reader A → (A → Reader B) → Reader B
then_at r f line = r line >>= λ x. f x.0 x.1

-- nothing more is read
abbrev pub pure : {A : Type 0} → A → Reader A
pure value line = Ok (value, line)

-- nothing is read
abbrev pub fault : {A : Type 0} → LineFault → Reader A
fault why line = Err why

abbrev pub or_fault : {A : Type 0} → LineFault → List ℕ → Option A → ReadsWords A
or_fault why rest None = Err why
or_fault why rest (Some x) = Ok (x, rest)

-- the next word, by its spelling, or its fault
abbrev pub next : {A : Type 0} → LineFault → (List ℕ → Option A) → Reader A
next why spelling line = or_fault why (behind line) (spelling (word line))

-- the next word, whatever it is
abbrev pub word_at : Reader (List ℕ)
word_at line = Ok (word line, behind line)

-- what is read, without the bytes behind it
abbrev pub first_of : {A : Type 0} → ReadsWords A → Result A LineFault
first_of (Ok x) = Ok x.0
first_of (Err why) = Err why
