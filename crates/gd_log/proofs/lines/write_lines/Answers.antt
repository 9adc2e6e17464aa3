use Rattle.std.proofs.Common.{ℕ, List, [], ◌∷◌, map, sym, ap, ◌∙◌}
use Rattle.gd_effects.specs.Effects.{Print}
use Rattle.gd_effects.proofs.Doing.{does_as}
use Rattle.gd_log.specs.declared.lines.Lines.{Lines}
use Rattle.gd_log.specs.Printing.{lines_in}
use Rattle.gd_log.proofs.lines.write_lines.Goals as goal

pub returns-in-Text-clause-does : goal.returns-in-Text-clause-does
returns-in-Text-clause-does g c = λ input journal link steps.
    does_as (ap (λ (l : Lines). map Print (lines_in l)) c.in-Text.is)
    (c.write_text.ensures.does input journal link steps)

pub returns-in-Json-clause-does : goal.returns-in-Json-clause-does
returns-in-Json-clause-does g c = λ input journal link steps.
    does_as (ap (λ (l : Lines). map Print (lines_in l)) c.in-Json.is
    ∙ ap (λ (line : List ℕ). Print line ∷ []) (sym (c.as_bytes.ensures.value ∙ c.as_str.ensures)))
    (c.print.ensures.does input journal link steps)
