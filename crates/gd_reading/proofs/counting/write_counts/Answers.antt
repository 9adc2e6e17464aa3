use Rattle.std.proofs.Common.{Bool, ℕ, List, [], ◌∷◌, map, sym, ap, ◌∙◌}
use Rattle.gd_effects.specs.Effects.{Print}
use Rattle.gd_effects.proofs.Doing.{does_as}
use Rattle.gd_lines.specs.Replies.{reply_text}
use Rattle.gd_lines.specs.declared.reply.Reply.{Reply}
use Rattle.gd_reference.specs.SlowRun.{counts_lines}
use Rattle.gd_reading.proofs.counting.write_counts.Goals as goal

pub returns-clause-does : goal.returns-clause-does
returns-clause-does g c = λ input journal link steps.
    does_as (ap (λ (asked : Bool). map Print (counts_lines asked c.args.tally.now)) c.if-not-asked.false
    ∙ ap (λ (r : Reply). Print (reply_text r) ∷ []) (sym c.reply.ensures)
    ∙ ap (λ (line : List ℕ). Print line ∷ []) (sym (c.as_slice.ensures.text ∙ c.text-text.ensures)))
    (c.print.ensures.does input journal link steps)
