use Rattle.std.proofs.Common.{take, arith}
use Rattle.gd_outside.proofs.ToldLemmas.{hands_out_first}
use Rattle.gd_outside.proofs.memory.source.MemorySourceSource.read.Goals as goal

pub returns-clause-called : goal.returns-clause-called
returns-clause-called c = rw (← c.self.view_is) record {
  taken = take c.hand_out.result c.hand_out.new.buf;
  handed = hands_out_first c.hand_out.result c.self.inside.source _ _ c.hand_out.ensures.bytes c.hand_out.ensures.left;
  count = omega arith;
  cause = λ failed. cc;
}
