use Rattle.gd_grammar.proofs.ExactFrame.{frame-fits}
use Rattle.gd_grammar.proofs.laws.events_of_1144_bytes_fit.Goals as goal

pub returns : goal.returns
returns c = frame-fits
