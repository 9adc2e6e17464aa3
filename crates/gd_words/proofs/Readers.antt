-- What readers read has a property, step by step and row by row.
use Rattle.std.proofs.Common.{◌≡◌, ℕ, Bool, true, false, List, [], ◌∷◌, Option, Some, None, Ok, Err, refl, nat_lt, ◌==◌}
use Rattle.std.proofs.Common.{length, subst, if◌then◌else◌}
use Rattle.std.specs.Prelude.{IfSome, Result}
use Rattle.std.specs.Str.{bytes_eq}
use Rattle.gd_base.specs.Results.{◌>>=◌}
use Rattle.gd_base.specs.declared.refusal.LineFault.{LineFault}
use Rattle.gd_base.specs.declared.refusal.LineFault.TheVariants.{LongLine, WrongCount}
use Rattle.gd_lines.specs.declared.command.TheConstants.{LONGEST_LINE}
use Rattle.gd_lines.specs.LineWords.{word, behind, count_words}
use Rattle.gd_lines.specs.Reading.{Reader, ReadsWords, fault, first_of, next, or_fault, pure, then_at}
use Rattle.gd_lines.specs.Rows.{Row, by_name, counted, line_by, reader_of}

-- what is read, if it is read, has the property
abbrev pub Yields : {A : Type 0} → (A → Type 0) → ReadsWords A → Type 0
Yields P (Ok x) = P x.0
Yields P (Err why) = Unit {0}

-- the same of any line
pub record Reads {A : Type 0} (P : A → Type 0) (r : Reader A) : Type 0 where
  pub at : (line : List ℕ) → Yields P (r line)

-- ---- steps

bound : {A B : Type 0} (P : A → Type 0) (Q : B → Type 0) (r : ReadsWords A) (f : A × List ℕ → ReadsWords B)
    → Yields P r → ((x : A × List ℕ) → P x.0 → Yields Q (f x)) → Yields Q (r >>= f)
bound P Q (Ok x) f h k = k x h
bound P Q (Err why) f h k = tt

pub then_reads : {A B : Type 0} {P : A → Type 0} {Q : B → Type 0} {r : Reader A} {f : A → Reader B} → Reads P r
    → ((x : A) → P x → Reads Q (f x)) → Reads Q (then_at r f)
unfolding then_at
then_reads {P = P} {Q = Q} {r = r} {f = f} h k
    = record { at = λ line. bound P Q (r line) (λ x. f x.0 x.1) (h.at line) (λ x p. (k x.0 p).at x.1) }

pub pure_reads : {A : Type 0} {P : A → Type 0} (value : A) → P value → Reads P (pure value)
pure_reads value h = record { at = λ line. h }

pub fault_reads : {A : Type 0} (P : A → Type 0) (why : LineFault) → Reads P (fault why)
fault_reads P why = record { at = λ line. tt }

-- nothing is said of what is read
abbrev pub Any : {A : Type 0} → A → Type 0
Any x = Unit {0}

any_yields : {A : Type 0} (r : ReadsWords A) → Yields Any r
any_yields (Ok x) = tt
any_yields (Err why) = tt

pub any : {A : Type 0} (r : Reader A) → Reads Any r
any r = record { at = λ line. any_yields (r line) }

pub weaker_yields : {A : Type 0} (P Q : A → Type 0) (r : ReadsWords A) → ((x : A) → P x → Q x) → Yields P r → Yields Q r
weaker_yields P Q (Ok x) f h = f x.0 h
weaker_yields P Q (Err why) f h = tt

pub weaker : {A : Type 0} {P Q : A → Type 0} {r : Reader A} → ((x : A) → P x → Q x) → Reads P r → Reads Q r
weaker {P = P} {Q = Q} {r = r} f h = record { at = λ line. weaker_yields P Q (r line) f (h.at line) }

pub by_spelling : {A : Type 0} (P : A → Type 0) (why : LineFault) (rest : List ℕ) (o : Option A)
    → IfSome o P → Yields P (or_fault why rest o)
by_spelling P why rest None h = tt
by_spelling P why rest (Some x) h = h

-- ---- rows

-- so many words as fit are read as what has the property
abbrev pub RowReads : {A : Type 0} → (A → Type 0) → Row A → Type 0
RowReads P r = (n : ℕ) → r.fits n ≡ true → Reads P (r.words n)

unfoldable pub AllRead : {A : Type 0} → (A → Type 0) → List (Row A) → Type 0
AllRead P [] = Unit {0}
AllRead P (r ∷ rs) = RowReads P r × AllRead P rs

pub all_weaker : {A : Type 0} (P Q : A → Type 0) (rs : List (Row A)) → ((x : A) → P x → Q x) → AllRead P rs
    → AllRead Q rs
unfolding AllRead
all_weaker P Q [] f h = tt
all_weaker P Q (r ∷ rs) f h = (λ n fits. weaker f (h.0 n fits), all_weaker P Q rs f h.1)

counted_by : {A : Type 0} (P : A → Type 0) (fits : Bool) (words : Reader A) → (fits ≡ true → Reads P words)
    → Reads P (reader_of (if fits then Ok words else Err WrongCount))
counted_by P true words h = h refl
counted_by P false words h = fault_reads P WrongCount

named_by : {A : Type 0} (P : A → Type 0) (same : Bool) (this others : Result (Reader A) LineFault)
    → Reads P (reader_of this) → Reads P (reader_of others) → Reads P (reader_of (if same then this else others))
named_by P true this others h k = h
named_by P false this others h k = k

pub named_reads : {A : Type 0} (P : A → Type 0) (rs : List (Row A)) → AllRead P rs → (name : List ℕ) (n : ℕ)
    → Reads P (reader_of (by_name rs name n))
unfolding AllRead by_name
named_reads P [] all name n = fault_reads P _
named_reads P (r ∷ rs) all name n =
    named_by P (bytes_eq name r.name) (counted r n) (by_name rs name n) (counted_by P (r.fits n) (r.words n) (all.0 n))
    (named_reads P rs all.1 name n)

-- a whole line, by the tests whether it's too long and whether it's blank
line_in : {A : Type 0} (P : A → Type 0) (long blank : Bool) (nothing : A) (r : ReadsWords A) (x : A) → P nothing
    → Yields P r
    → (if long then Err LongLine else if blank then Ok nothing else first_of r) ≡ Ok x → P x
line_in P true blank nothing r x a h e = absurd cc
line_in P false true nothing r x a h e = let same : nothing ≡ x = cc in subst P same a
line_in P false false nothing (Ok y) x a h e = let same : y.0 ≡ x = cc in subst P same h
line_in P false false nothing (Err why) x a h e = absurd cc

-- what a line asks for by such rows has the property
pub line_reads : {A : Type 0} (P : A → Type 0) (rs : List (Row A)) (nothing : A) → AllRead P rs → P nothing
    → (line : List ℕ) (x : A) → line_by rs nothing line ≡ Ok x → P x
line_reads P rs nothing all a line x e =
    line_in P (nat_lt LONGEST_LINE (length line)) (count_words line == 0) nothing _ x a
    ((named_reads P rs all (word line) _).at (behind line)) e
