use Rattle.std.proofs.Common.{refl, ap, ◌∙◌}
use Rattle.gd_rows.proofs.ByDrawing.{drawn_compute}
use Rattle.gd_rows.proofs.Computing.{computing}
use Rattle.gd_rows.proofs.Turned.{held_of, site-in, turned_drawn}
use Rattle.gd_rows.specs.WorkedBacks.{stopping, stopping_again, undone_steps}
use Rattle.gd_rows.proofs.back_rows.an_undo_is_an_edit.Goals as goal

pub returns-clause-others : goal.returns-clause-others
unfolding computing drawn_compute turned_drawn
returns-clause-others c = ap held_of (site-in 2 undone_steps) ∙ refl

pub returns-clause-stored : goal.returns-clause-stored
unfolding computing drawn_compute turned_drawn
returns-clause-stored c = ap held_of (site-in 1 (stopping 1)) ∙ refl

pub returns-clause-lost : goal.returns-clause-lost
unfolding computing drawn_compute turned_drawn
returns-clause-lost c = ap held_of (site-in 1 (stopping 0)) ∙ refl

pub returns-clause-stored_again : goal.returns-clause-stored_again
unfolding computing drawn_compute turned_drawn
returns-clause-stored_again c = ap held_of (site-in 1 (stopping_again 1)) ∙ refl

pub returns-clause-lost_again : goal.returns-clause-lost_again
unfolding computing drawn_compute turned_drawn
returns-clause-lost_again c = ap held_of (site-in 1 (stopping_again 0)) ∙ refl
