use Rattle.gd_backs.proofs.OneGesture.{edit_made, edit_site, none_made}
use Rattle.gd_backs.proofs.laws.an_edit_is_a_gesture_of_one.Goals as goal

pub returns-clause-site : goal.returns-clause-site
returns-clause-site c = edit_site

pub returns-clause-events : goal.returns-clause-events
returns-clause-events c = edit_made

pub returns-clause-none : goal.returns-clause-none
returns-clause-none c = none_made
