use Rattle.gd_backs.proofs.Soundness.{sound_back}
use Rattle.gd_backs.proofs.laws.each_back_is_sound.Goals as goal

pub returns : goal.returns
returns c = sound_back
