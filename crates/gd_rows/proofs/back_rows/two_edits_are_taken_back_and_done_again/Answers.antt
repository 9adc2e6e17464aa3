use Rattle.std.proofs.Common.{refl, ap, ◌∙◌}
use Rattle.std.specs.Prelude.{[], ◌∷◌, ◌++◌}
use Rattle.gd_lines.specs.declared.command.Command.TheVariants as command
use Rattle.gd_rows.proofs.ByDrawing.{drawn_compute}
use Rattle.gd_rows.proofs.Computing.{computing}
use Rattle.gd_rows.proofs.Turned.{behind-drawn, each_site, held_of, kept_of, prints-drawn, turned_drawn}
use Rattle.gd_rows.specs.WorkedNodes.{asked}
use Rattle.gd_rows.specs.WorkedBacks.{all_again, all_back, kept_on_the_way}
use Rattle.gd_rows.proofs.back_rows.two_edits_are_taken_back_and_done_again.Goals as goal

pub returns-clause-printed : goal.returns-clause-printed
unfolding computing drawn_compute turned_drawn
returns-clause-printed c = prints-drawn (all_back ++ asked (command.Show ∷ command.Status ∷ [])) ∙ refl

pub returns-clause-again : goal.returns-clause-again
unfolding computing drawn_compute turned_drawn
returns-clause-again c = prints-drawn (all_again ++ asked (command.Show ∷ [])) ∙ refl

pub returns-clause-held : goal.returns-clause-held
unfolding computing drawn_compute turned_drawn
returns-clause-held c = ap held_of (behind-drawn all_again) ∙ refl

pub returns-clause-kept : goal.returns-clause-kept
unfolding computing drawn_compute turned_drawn
returns-clause-kept c =
    each_site kept_on_the_way (λ r. behind-drawn r.0) kept_of (λ r. r.1)
    (refl, (refl, (refl, (refl, (refl, (refl, (refl, tt)))))))
