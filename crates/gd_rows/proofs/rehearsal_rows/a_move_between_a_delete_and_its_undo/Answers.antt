use Rattle.std.proofs.Common.{ap, refl, ◌∙◌}
use Rattle.gd_effects.specs.Effects.{cost, printed}
use Rattle.gd_rows.proofs.ByDrawing.{drawn_compute, rehearsed-drawn}
use Rattle.gd_rows.proofs.Computing.{computing}
use Rattle.gd_rows.specs.WorkedRehearsals.{taken_between, typed}
use Rattle.gd_worlds.specs.Rehearsal.{rehearsal_lines}
use Rattle.gd_rows.proofs.rehearsal_rows.a_move_between_a_delete_and_its_undo.Goals as goal

pub returns-clause-printed : goal.returns-clause-printed
unfolding computing drawn_compute
returns-clause-printed c = ap printed (rehearsed-drawn 2 (rehearsal_lines (typed taken_between))) ∙ refl

pub returns-clause-cost : goal.returns-clause-cost
unfolding computing drawn_compute
returns-clause-cost c = ap cost (rehearsed-drawn 2 (rehearsal_lines (typed taken_between))) ∙ refl
