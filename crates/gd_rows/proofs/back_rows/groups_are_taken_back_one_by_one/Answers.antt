use Rattle.std.proofs.Common.{refl, ap, ◌∙◌}
use Rattle.std.specs.Prelude.{◌++◌, ◌-◌}
use Rattle.gd_lines.specs.declared.command.Turn.TheVariants.{Undo, Redo}
use Rattle.gd_rows.proofs.ByDrawing.{drawn_compute}
use Rattle.gd_rows.proofs.Computing.{computing}
use Rattle.gd_rows.proofs.Turned.{behind-drawn, each_site, kept_of, shown_of, turned_drawn}
use Rattle.gd_rows.specs.WorkedBacks.{regrouped, regrouped_shown, turns}
use Rattle.gd_rows.proofs.back_rows.groups_are_taken_back_one_by_one.Goals as goal

pub returns-clause-backs : goal.returns-clause-backs
unfolding computing drawn_compute turned_drawn
returns-clause-backs c = ap kept_of (behind-drawn regrouped) ∙ refl

pub returns-clause-again : goal.returns-clause-again
unfolding computing drawn_compute turned_drawn
returns-clause-again c = ap kept_of (behind-drawn (regrouped ++ turns 8 Undo)) ∙ refl

pub returns-clause-undone : goal.returns-clause-undone
unfolding computing drawn_compute turned_drawn
returns-clause-undone c =
    each_site regrouped_shown (λ r. behind-drawn (regrouped ++ turns (8 - r.0) Undo)) shown_of (λ r. r.1)
    (refl, (refl, (refl, (refl, (refl, (refl, (refl, (refl, (refl, tt)))))))))

pub returns-clause-redone : goal.returns-clause-redone
unfolding computing drawn_compute turned_drawn
returns-clause-redone c =
    each_site regrouped_shown (λ r. behind-drawn (regrouped ++ turns 8 Undo ++ turns r.0 Redo)) shown_of
    (λ r. r.1)
    (refl, (refl, (refl, (refl, (refl, (refl, (refl, (refl, (refl, tt)))))))))
