use Rattle.std.proofs.Common.{ap, refl, ◌∙◌}
use Rattle.std.specs.Prelude.{List, ◌++◌}
use Rattle.gd_effects.specs.Effects.{Effect}
use Rattle.gd_reference.specs.SlowSite.{new_site}
use Rattle.gd_rows.proofs.ByDrawing.{answers-drawn, drawn_compute}
use Rattle.gd_rows.proofs.Computing.{computing}
use Rattle.gd_rows.proofs.Turned.{behind-drawn, each_site, kept_of, turned_drawn}
use Rattle.gd_rows.specs.WorkedGestures.{begun, kept_on_the_way, turned_gesture}
use Rattle.gd_rows.proofs.gesture_rows.a_gesture_is_taken_back_as_one.Goals as goal

pub returns-clause-effects : goal.returns-clause-effects
unfolding computing drawn_compute
returns-clause-effects c =
    ap (λ (effects : List Effect). begun ++ effects) (answers-drawn (new_site 1 2 7) turned_gesture) ∙ refl

pub returns-clause-kept : goal.returns-clause-kept
unfolding computing drawn_compute turned_drawn
returns-clause-kept c =
    each_site kept_on_the_way (λ r. behind-drawn r.0) kept_of (λ r. r.1)
    (refl, (refl, (refl, (refl, (refl, (refl, tt))))))
