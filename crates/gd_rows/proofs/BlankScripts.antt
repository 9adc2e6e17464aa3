-- As many blank lines in front of an input as a rehearsal may have lines.
use Rattle.std.proofs.Common.{◌≡◌, ℕ, zero, suc, List, [], ◌∷◌, ◌++◌, refl, ap, ◌∙◌}
use Rattle.std.specs.Prelude.{Ok, codes, replicate}
use Rattle.gd_effects.specs.Effects.{printed}
use Rattle.gd_lines.specs.LineWords.{count_from, without_cr}
use Rattle.gd_lines.specs.ScriptLines.{read_script}
use Rattle.gd_lines.specs.declared.command.ScriptLine.TheVariants as script
use Rattle.gd_outside.specs.declared.status.Status.TheVariants.{Done, LineLimit}
use Rattle.gd_reference.specs.Dialogues.{answered, end_of_lines}
use Rattle.gd_reference.specs.InputLines.{Heard, Read, heard, lf, lines_of}
use Rattle.gd_reference.specs.World.{World, start}
use Rattle.gd_worlds.specs.Rehearsal.{HeardScript, rehearsal_effects, rehearsal_end, rehearsal_manner}
use Rattle.gd_rows.specs.WorkedRehearsals.{heard_of}

-- what is heard of so many in front of a rest, of whatever reads lines
module _ {A : Type 0} (read : List ℕ → A) where
  blanks-heard : (n : ℕ) (rest : List ℕ)
      → heard read n (lines_of (replicate n lf ++ rest))
      ≡ replicate n (Read (read [])) ++ heard read zero (lines_of rest)
  unfolding heard lines_of
  blanks-heard zero rest = refl
  blanks-heard (suc n) rest = ap (λ (lines : List (Heard A)). Read (read []) ∷ lines) (blanks-heard n rest)

abbrev blank : HeardScript
blank = Read (Ok script.Blank)

scripts-heard : (n : ℕ) (rest : List ℕ) → heard_of n (replicate n lf ++ rest) ≡ replicate n blank ++ heard_of zero rest
unfolding read_script without_cr count_from
scripts-heard n rest = blanks-heard read_script n rest

-- they do nothing, and the rest is answered as by itself
blanks-do-nothing : (w : World) (n : ℕ) (rest : List HeardScript)
    → answered rehearsal_manner w [] (replicate n blank ++ rest) ≡ answered rehearsal_manner w [] rest
unfolding answered
blanks-do-nothing w zero rest = refl
blanks-do-nothing w (suc n) rest = blanks-do-nothing w n rest

blanks-go-on : (n : ℕ) (rest : List HeardScript) → rehearsal_end (replicate n blank ++ rest) ≡ rehearsal_end rest
unfolding end_of_lines
blanks-go-on zero rest = refl
blanks-go-on (suc n) rest = blanks-go-on n rest

effects-behind : (n : ℕ) (rest : List ℕ)
    → rehearsal_effects 1 (heard_of n (replicate n lf ++ rest)) ≡ rehearsal_effects 1 (heard_of zero rest)
effects-behind n rest = ap (rehearsal_effects 1) (scripts-heard n rest)
    ∙ blanks-do-nothing (start 1 1) n (heard_of zero rest)

end-behind : (n : ℕ) (rest : List ℕ)
    → rehearsal_end (heard_of n (replicate n lf ++ rest)) ≡ rehearsal_end (heard_of zero rest)
end-behind n rest = ap rehearsal_end (scripts-heard n rest) ∙ blanks-go-on n (heard_of zero rest)

-- nothing behind them, and a line more
pub nothing_done : (n : ℕ) → rehearsal_effects 1 (heard_of n (replicate n lf ++ [])) ≡ []
unfolding answered heard lines_of
nothing_done n = effects-behind n []

pub ends_done : (n : ℕ) → rehearsal_end (heard_of n (replicate n lf ++ [])) ≡ Done
unfolding end_of_lines heard lines_of
ends_done n = end-behind n []

pub limit_said : (n : ℕ)
    → printed (rehearsal_effects 1 (heard_of n (replicate n lf ++ codes "x"))) ≡ codes "line limit\n"
unfolding answered heard lines_of
limit_said n = ap printed (effects-behind n (codes "x"))

pub ends_over : (n : ℕ) → rehearsal_end (heard_of n (replicate n lf ++ codes "x")) ≡ LineLimit
unfolding end_of_lines heard lines_of
ends_over n = end-behind n (codes "x")
