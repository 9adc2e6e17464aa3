use Rattle.std.proofs.Common.{refl}
use Rattle.gd_rows.proofs.Computing.{computing}
use Rattle.gd_rows.proofs.back_rows.what_is_refused_changes_nothing.Goals as goal

pub returns-clause-edits : goal.returns-clause-edits
unfolding computing
returns-clause-edits c = (refl, (refl, (refl, (refl, tt))))
