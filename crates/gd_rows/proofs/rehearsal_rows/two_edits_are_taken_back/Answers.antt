use Rattle.std.proofs.Common.{ap, refl, ◌∙◌}
use Rattle.gd_effects.specs.Effects.{cost, printed}
use Rattle.gd_rows.proofs.ByDrawing.{drawn_compute, rehearsed-drawn}
use Rattle.gd_rows.proofs.Computing.{computing}
use Rattle.gd_rows.specs.WorkedRehearsals.{taken_back, typed}
use Rattle.gd_worlds.specs.Rehearsal.{rehearsal_lines}
use Rattle.gd_rows.proofs.rehearsal_rows.two_edits_are_taken_back.Goals as goal

pub returns-clause-printed : goal.returns-clause-printed
unfolding computing drawn_compute
returns-clause-printed c = ap printed (rehearsed-drawn 1 (rehearsal_lines (typed taken_back))) ∙ refl

pub returns-clause-cost : goal.returns-clause-cost
unfolding computing drawn_compute
returns-clause-cost c = ap cost (rehearsed-drawn 1 (rehearsal_lines (typed taken_back))) ∙ refl
