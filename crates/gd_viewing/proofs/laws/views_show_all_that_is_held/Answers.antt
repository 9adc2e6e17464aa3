use Rattle.gd_viewing.proofs.Arriving.{view_above, view_line, view_outcome, view_shown}
use Rattle.gd_viewing.proofs.laws.views_show_all_that_is_held.Goals as goal

pub returns-clause-drawing : goal.returns-clause-drawing
returns-clause-drawing c = view_shown

pub returns-clause-line : goal.returns-clause-line
returns-clause-line c = view_line

pub returns-clause-above : goal.returns-clause-above
returns-clause-above c = λ slow v fresh e h site next. view_above slow v fresh h e site next

pub returns-clause-outcome : goal.returns-clause-outcome
returns-clause-outcome c = view_outcome
