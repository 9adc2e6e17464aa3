use Rattle.gd_viewing.proofs.Arriving.{view_arrived, view_beat, view_first, view_taken}
use Rattle.gd_viewing.proofs.laws.viewers_stay_views.Goals as goal

pub returns-clause-begun : goal.returns-clause-begun
returns-clause-begun c = view_first

pub returns-clause-event : goal.returns-clause-event
returns-clause-event c = view_arrived

pub returns-clause-beat : goal.returns-clause-beat
returns-clause-beat c = view_beat

pub returns-clause-frame : goal.returns-clause-frame
returns-clause-frame c = view_taken
