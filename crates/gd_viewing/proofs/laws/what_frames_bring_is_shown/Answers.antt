use Rattle.gd_viewing.proofs.Arriving.{frames-shown}
use Rattle.gd_viewing.proofs.laws.what_frames_bring_is_shown.Goals as goal

pub returns : goal.returns
returns c = frames-shown
