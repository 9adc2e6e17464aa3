use Rattle.gd_viewing.proofs.Arriving.{arrived-above, arrived-held, arrived-outcome, arrived-shown}
use Rattle.gd_viewing.proofs.laws.what_arrives_is_shown.Goals as goal

pub returns-clause-drawing : goal.returns-clause-drawing
returns-clause-drawing c = arrived-shown

pub returns-clause-held : goal.returns-clause-held
returns-clause-held c = arrived-held

pub returns-clause-outcome : goal.returns-clause-outcome
returns-clause-outcome c = arrived-outcome

pub returns-clause-above : goal.returns-clause-above
returns-clause-above c = arrived-above
