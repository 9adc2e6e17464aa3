use Rattle.std.proofs.Common.{ap, refl, ◌∙◌}
use Rattle.std.specs.Prelude.{List, ◌∷◌}
use Rattle.gd_effects.specs.Effects.{Effect, Head}
use Rattle.gd_lines.specs.declared.reply.Reply.TheVariants as reply
use Rattle.gd_reference.specs.Said.{says}
use Rattle.gd_reference.specs.SlowSite.{new_site}
use Rattle.gd_rows.proofs.ByDrawing.{answers-drawn, drawn_compute}
use Rattle.gd_rows.proofs.Computing.{computing}
use Rattle.gd_rows.specs.WorkedNodes.{second_header, turned_lines}
use Rattle.gd_rows.proofs.node_rows.an_undo_and_a_redo.Goals as goal

pub returns-clause-effects : goal.returns-clause-effects
unfolding computing drawn_compute
returns-clause-effects c =
    ap (λ (effects : List Effect). Head second_header ∷ says (reply.Ready 2 3) ∷ effects)
    (answers-drawn (new_site 2 3 7) turned_lines)
    ∙ refl
