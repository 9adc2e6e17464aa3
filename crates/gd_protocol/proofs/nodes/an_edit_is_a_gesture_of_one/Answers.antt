use Rattle.std.proofs.Common.{refl}
use Rattle.gd_protocol.proofs.OneGesture.{edit_leaves, one_edit}
use Rattle.gd_protocol.proofs.nodes.an_edit_is_a_gesture_of_one.Goals as goal

pub returns-clause-edit : goal.returns-clause-edit
returns-clause-edit c slow wanted = refl

pub returns-clause-gesture : goal.returns-clause-gesture
returns-clause-gesture c = one_edit

pub returns-clause-leaves : goal.returns-clause-leaves
returns-clause-leaves c = edit_leaves
