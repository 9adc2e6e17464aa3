use Rattle.std.proofs.Common.{ap, refl, ◌∙◌}
use Rattle.std.specs.Prelude.{◌++◌}
use Rattle.gd_reference.specs.Said.{all_said}
use Rattle.gd_rows.proofs.ByDrawing.{all-churned, drawn_compute}
use Rattle.gd_rows.proofs.Computing.{computing}
use Rattle.gd_worlds.specs.Churn.{Churning, summary}
use Rattle.gd_rows.proofs.churn_rows.seven_steps.Goals as goal

pub returns : goal.returns
unfolding computing drawn_compute
returns c =
    ap (λ (c : Churning). c.work ++ all_said (summary c.world c.counts)) (all-churned 224141972 7) ∙ refl
