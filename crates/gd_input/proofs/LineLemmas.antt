-- The first line of an input, what is heard of it, and what stands in whole lines.
use Rattle.std.proofs.Common.{◌≡◌, ◌≢◌, ℕ, zero, suc, ◌<◌, ◌≤◌, List, [], ◌∷◌, ◌++◌, length, cond, refl, ◌∙◌, ap, arith}
use Rattle.std.proofs.lemmas.Bool.{ne_eqb, lt-ltb, le-ltb}
use Rattle.std.proofs.lemmas.List.Elements.{All-head, All-tail}
use Rattle.gd_input.specs.Cutting.{HasNoLf}
use Rattle.gd_reference.specs.InputLines.{lf, Read, Over, onto, lines_of, longest_input_line, heard, before_lf}
use Rattle.gd_reference.specs.InputLines.{whole_lines}

abbrev IsNoLf : ℕ → Type 0
IsNoLf byte = byte ≢ lf

-- ---- the first line

onto_first : (byte : ℕ) (bytes : List ℕ) → byte ≢ lf → lines_of (byte ∷ bytes) ≡ onto byte (lines_of bytes)
unfolding lines_of
onto_first byte bytes other = ap (λ b. cond b ([] ∷ lines_of bytes) (onto byte (lines_of bytes))) (ne_eqb byte lf other)

pub no_bytes_have_no_lines : lines_of [] ≡ []
unfolding lines_of
no_bytes_have_no_lines = refl

pub a_line_goes_up_to_lf : (line rest : List ℕ) → HasNoLf line → lines_of (line ++ lf ∷ rest) ≡ line ∷ lines_of rest
unfolding lines_of
a_line_goes_up_to_lf [] rest one = refl
a_line_goes_up_to_lf (byte ∷ line) rest one =
    onto_first byte (line ++ lf ∷ rest) (All-head IsNoLf byte line one)
    ∙ ap (onto byte) (a_line_goes_up_to_lf line rest (All-tail IsNoLf byte line one))

pub the_last_line_goes_up_to_the_end : (line : List ℕ) → HasNoLf line → 0 < length line → lines_of line ≡ line ∷ []
unfolding lines_of
the_last_line_goes_up_to_the_end [] one some = absurd (omega arith)
the_last_line_goes_up_to_the_end (byte ∷ []) one some = onto_first byte [] (All-head IsNoLf byte [] one)
the_last_line_goes_up_to_the_end (byte ∷ next ∷ line) one some =
    onto_first byte (next ∷ line) (All-head IsNoLf byte (next ∷ line) one)
    ∙ ap (onto byte) (the_last_line_goes_up_to_the_end (next ∷ line) (All-tail IsNoLf byte (next ∷ line) one)
    (omega arith))

-- a first line that is at least so long
record BeginsWith (least : ℕ) (bytes : List ℕ) : Type 0 where
  line : List ℕ
  lines : List (List ℕ)
  is : lines_of bytes ≡ line ∷ lines
  long : least ≤ length line

onto_some : (byte : ℕ) (lines : List (List ℕ))
    → (line : List ℕ) × (rest : List (List ℕ)) × (onto byte lines ≡ (byte ∷ line) ∷ rest)
onto_some byte [] = ([], [], refl)
onto_some byte (line ∷ lines) = (line, lines, refl)

begins_with : (front more : List ℕ) → HasNoLf front → 0 < length front → BeginsWith (length front) (front ++ more)
begins_with [] more one some = absurd (omega arith)
begins_with (byte ∷ []) more one some =
    let p = onto_some byte (lines_of more) in
    record {
      line = byte ∷ p.0;
      lines = p.1;
      is = onto_first byte more (All-head IsNoLf byte [] one)
          ∙ p.2;
      long = omega arith;
    }
begins_with (byte ∷ next ∷ front) more one some =
    let b = begins_with (next ∷ front) more (All-tail IsNoLf byte (next ∷ front) one) (omega arith) in
    record {
      line = byte ∷ b.line;
      lines = b.lines;
      is = onto_first byte ((next ∷ front) ++ more) (All-head IsNoLf byte (next ∷ front) one) ∙ ap (onto byte) b.is;
      long = omega (arith, b.long);
    }

-- ---- what is heard

module _ {A : Type 0} (read : List ℕ → A) where
  pub no_lines_are_heard : (most : ℕ) → heard read most [] ≡ []
  unfolding heard
  no_lines_are_heard zero = refl
  no_lines_are_heard (suc most) = refl

  pub a_line_is_heard : (most : ℕ) (line : List ℕ) (lines : List (List ℕ)) → length line ≤ longest_input_line
      → heard read (suc most) (line ∷ lines) ≡ Read (read line) ∷ heard read most lines
  unfolding heard
  a_line_is_heard most line lines fits
      = ap (λ b. cond b (Over ∷ []) (Read (read line) ∷ heard read most lines))
      (le-ltb longest_input_line (length line) fits)

  pub one_line_too_many_is_over : (line : List ℕ) (lines : List (List ℕ)) → heard read 0 (line ∷ lines) ≡ Over ∷ []
  unfolding heard
  one_line_too_many_is_over line lines = refl

  a_long_line_is_over : (most : ℕ) (line : List ℕ) (lines : List (List ℕ)) → longest_input_line < length line
      → heard read most (line ∷ lines) ≡ Over ∷ []
  unfolding heard
  a_long_line_is_over zero line lines long = refl
  a_long_line_is_over (suc most) line lines long
      = ap (λ b. cond b (Over ∷ []) (Read (read line) ∷ heard read most lines))
      (lt-ltb longest_input_line (length line) long)

  pub too_long_a_line_is_over : (most : ℕ) (front more : List ℕ) → HasNoLf front → longest_input_line < length front
      → heard read most (lines_of (front ++ more)) ≡ Over ∷ []
  too_long_a_line_is_over most front more one long =
      let b = begins_with front more one (omega arith) in
      ap (heard read most) b.is ∙ a_long_line_is_over most b.line b.lines (omega (arith, b.long))

-- ---- what stands in whole lines

before_some_lf : (bytes : List ℕ) → before_lf lf bytes ≡ lf ∷ bytes
before_some_lf [] = refl
before_some_lf (byte ∷ bytes) = refl

before_some : (byte : ℕ) (line rest : List ℕ) → before_lf byte (line ++ lf ∷ rest) ≡ byte ∷ (line ++ lf ∷ rest)
before_some byte [] rest = refl
before_some byte (next ∷ line) rest = refl

pub a_line_and_its_lf_are_whole : (line rest : List ℕ) → whole_lines (line ++ lf ∷ rest) ≡ line ++ lf ∷ whole_lines rest
unfolding whole_lines
a_line_and_its_lf_are_whole [] rest = before_some_lf (whole_lines rest)
a_line_and_its_lf_are_whole (byte ∷ line) rest = ap (before_lf byte) (a_line_and_its_lf_are_whole line rest)
    ∙ before_some byte line (whole_lines rest)

pub without_lf_no_line_is_whole : (bytes : List ℕ) → HasNoLf bytes → whole_lines bytes ≡ []
unfolding whole_lines
without_lf_no_line_is_whole [] one = refl
without_lf_no_line_is_whole (byte ∷ bytes) one =
    ap (before_lf byte) (without_lf_no_line_is_whole bytes (All-tail IsNoLf byte bytes one))
    ∙ ap (λ b. cond b (byte ∷ []) []) (ne_eqb byte lf (All-head IsNoLf byte bytes one))
