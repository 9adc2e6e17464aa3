use Rattle.gd_backs.proofs.Soundness.{sound_backs}
use Rattle.gd_backs.proofs.laws.each_back_of_a_gesture_is_sound.Goals as goal

pub returns : goal.returns
returns c = sound_backs
