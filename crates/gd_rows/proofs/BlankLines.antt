-- As many blank lines as there may be, and one more.
use Rattle.std.proofs.Common.{◌≡◌, ℕ, zero, suc, List, [], ◌∷◌, ◌++◌, refl, ap, ◌∙◌}
use Rattle.std.specs.Prelude.{replicate}
use Rattle.gd_lines.specs.LineWords.{count_from, without_cr}
use Rattle.gd_lines.specs.Lines.{read}
use Rattle.gd_outside.specs.declared.status.Status.TheVariants.{Done, LineLimit}
use Rattle.gd_reference.specs.Dialogues.{end_of_lines}
use Rattle.gd_reference.specs.InputLines.{Over, heard, lf, lines_of}
use Rattle.gd_reference.specs.NodeRun.{HeardLine, end_after}
use Rattle.gd_rows.specs.WorkedInputs.{blank, heard_of}

blanks-cut : (n : ℕ) → lines_of (replicate n lf) ≡ replicate n []
unfolding lines_of
blanks-cut zero = refl
blanks-cut (suc n) = ap (λ (lines : List (List ℕ)). [] ∷ lines) (blanks-cut n)

-- what is heard of them
all-heard : (n : ℕ) → heard read n (replicate n []) ≡ replicate n blank
unfolding heard read without_cr count_from
all-heard zero = refl
all-heard (suc n) = ap (λ (lines : List HeardLine). blank ∷ lines) (all-heard n)

last-heard : (n : ℕ) → heard read n (replicate (suc n) []) ≡ replicate n blank ++ Over ∷ []
unfolding heard read without_cr count_from
last-heard zero = refl
last-heard (suc n) = ap (λ (lines : List HeardLine). blank ∷ lines) (last-heard n)

pub as_many_heard : (n : ℕ) → heard_of n (replicate n lf) ≡ replicate n blank
as_many_heard n = ap (heard read n) (blanks-cut n) ∙ all-heard n

pub one_more_heard : (n : ℕ) → heard_of n (replicate (suc n) lf) ≡ replicate n blank ++ Over ∷ []
one_more_heard n = ap (heard read n) (blanks-cut (suc n)) ∙ last-heard n

-- how a run of them ends
pub ends_done : (n : ℕ) → end_after (replicate n blank) ≡ Done
unfolding end_of_lines
ends_done zero = refl
ends_done (suc n) = ends_done n

pub ends_over : (n : ℕ) → end_after (replicate n blank ++ Over ∷ []) ≡ LineLimit
unfolding end_of_lines
ends_over zero = refl
ends_over (suc n) = ends_over n
