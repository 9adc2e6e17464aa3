use Rattle.gd_input.proofs.CutLemmas.{pending_behind}
use Rattle.gd_input.proofs.reader.LineReader.skip.Goals as goal

pub returns : goal.returns
returns c = pending_behind _ _ _ _ _ c.self.invariant.in_order c.self.view_is c.requires
