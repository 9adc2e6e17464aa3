use Rattle.std.proofs.Common.{ap, refl, ◌∙◌}
use Rattle.gd_effects.specs.Effects.{printed}
use Rattle.gd_rows.proofs.ByDrawing.{drawn_compute, rehearsed-drawn}
use Rattle.gd_rows.proofs.Computing.{computing}
use Rattle.gd_rows.specs.WorkedRehearsals.{too_far, typed}
use Rattle.gd_worlds.specs.Rehearsal.{rehearsal_lines}
use Rattle.gd_rows.proofs.rehearsal_rows.places_out_of_the_range.Goals as goal

pub returns : goal.returns
unfolding computing drawn_compute
returns c = ap printed (rehearsed-drawn 1 (rehearsal_lines (typed too_far))) ∙ refl
