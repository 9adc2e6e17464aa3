use Rattle.gd_grammar.proofs.FrameLaws.{change-refused}
use Rattle.gd_grammar.proofs.laws.changed_frames_are_refused.Goals as goal

pub returns : goal.returns
returns c = change-refused
