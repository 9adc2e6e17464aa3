use Rattle.gd_protocol.proofs.Windows.{again_front, few_frames, turn_front, window_sent}
use Rattle.gd_protocol.proofs.laws.windows_are_sent.Goals as goal

pub returns-clause-sent : goal.returns-clause-sent
returns-clause-sent c = window_sent

pub returns-clause-front : goal.returns-clause-front
returns-clause-front c = turn_front

pub returns-clause-again : goal.returns-clause-again
returns-clause-again c = again_front

pub returns-clause-few : goal.returns-clause-few
returns-clause-few c = few_frames
