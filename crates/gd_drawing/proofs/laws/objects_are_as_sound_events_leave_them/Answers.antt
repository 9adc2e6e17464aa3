use Rattle.gd_drawing.proofs.SoundObjects.{on_board}
use Rattle.gd_drawing.proofs.laws.objects_are_as_sound_events_leave_them.Goals as goal

pub returns : goal.returns
returns c = on_board
