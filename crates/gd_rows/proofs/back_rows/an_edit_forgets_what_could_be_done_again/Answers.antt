use Rattle.std.proofs.Common.{refl, ap, ◌∙◌}
use Rattle.std.specs.Prelude.{[], ◌∷◌, ◌++◌}
use Rattle.gd_lines.specs.declared.command.Command.TheVariants as command
use Rattle.gd_rows.proofs.ByDrawing.{drawn_compute}
use Rattle.gd_rows.proofs.Computing.{computing}
use Rattle.gd_rows.proofs.Turned.{behind-drawn, kept_of, prints-drawn, turned_drawn}
use Rattle.gd_rows.specs.WorkedNodes.{asked}
use Rattle.gd_rows.specs.WorkedBacks.{forgetting, forgotten, refusing}
use Rattle.gd_rows.proofs.back_rows.an_edit_forgets_what_could_be_done_again.Goals as goal

pub returns-clause-backs : goal.returns-clause-backs
unfolding computing drawn_compute turned_drawn
returns-clause-backs c = ap kept_of (behind-drawn forgetting) ∙ refl

pub returns-clause-printed : goal.returns-clause-printed
unfolding computing drawn_compute turned_drawn
returns-clause-printed c = prints-drawn (forgotten ++ asked (command.Show ∷ [])) ∙ refl

pub returns-clause-refused : goal.returns-clause-refused
unfolding computing drawn_compute turned_drawn
returns-clause-refused c = prints-drawn (refusing ++ asked (command.Show ∷ [])) ∙ refl
