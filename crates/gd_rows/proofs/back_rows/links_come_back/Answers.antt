use Rattle.std.proofs.Common.{refl, ap, ◌∙◌}
use Rattle.std.specs.Prelude.{◌++◌}
use Rattle.gd_lines.specs.declared.command.Turn.TheVariants.{Undo, Redo}
use Rattle.gd_rows.proofs.ByDrawing.{drawn_compute}
use Rattle.gd_rows.proofs.Computing.{computing}
use Rattle.gd_rows.proofs.Turned.{behind-drawn, each_site, kept_of, shown_of, turned_drawn}
use Rattle.gd_rows.specs.WorkedBacks.{nested, nested_shown, turns}
use Rattle.gd_rows.proofs.back_rows.links_come_back.Goals as goal

pub returns-clause-backs : goal.returns-clause-backs
unfolding computing drawn_compute turned_drawn
returns-clause-backs c = ap kept_of (behind-drawn nested) ∙ refl

pub returns-clause-undone : goal.returns-clause-undone
unfolding computing drawn_compute turned_drawn
returns-clause-undone c =
    each_site nested_shown (λ r. behind-drawn (nested ++ turns r.0 Undo)) shown_of (λ r. r.2)
    (refl, (refl, (refl, (refl, (refl, tt)))))

pub returns-clause-redone : goal.returns-clause-redone
unfolding computing drawn_compute turned_drawn
returns-clause-redone c =
    each_site nested_shown (λ r. behind-drawn (nested ++ turns 8 Undo ++ turns r.1 Redo)) shown_of (λ r. r.2)
    (refl, (refl, (refl, (refl, (refl, tt)))))
