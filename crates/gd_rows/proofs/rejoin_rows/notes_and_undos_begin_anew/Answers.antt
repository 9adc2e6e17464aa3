use Rattle.std.proofs.Common.{ap, refl, ◌∙◌}
use Rattle.std.specs.Prelude.{List, [], ◌∷◌, ◌++◌, map}
use Rattle.gd_effects.specs.Effects.{Effect, Work, printed}
use Rattle.gd_lines.specs.declared.reply.Reply.TheVariants as reply
use Rattle.gd_model.specs.Arrivals.{costs}
use Rattle.gd_reference.specs.NodeRun.{node_lines}
use Rattle.gd_reference.specs.Said.{says}
use Rattle.gd_reference.specs.SlowSite.{resumed}
use Rattle.gd_rows.proofs.ByDrawing.{answers-drawn, drawn_compute}
use Rattle.gd_rows.proofs.Computing.{computing}
use Rattle.gd_rows.specs.WorkedRejoins.{undos_input}
use Rattle.gd_rows.specs.WorkedWorlds.{first_rect}
use Rattle.gd_rows.proofs.rejoin_rows.notes_and_undos_begin_anew.Goals as goal

pub returns-clause-undos : goal.returns-clause-undos
unfolding computing drawn_compute
returns-clause-undos c =
    ap (λ (effects : List Effect). printed (map Work (costs (first_rect ∷ [])) ++ says (reply.Ready 1 2) ∷ effects))
    (answers-drawn (resumed 1 2 7 (first_rect ∷ [])) (node_lines undos_input))
    ∙ refl
