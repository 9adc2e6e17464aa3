use Rattle.std.proofs.Common.{◌-◌, arith, take}
use Rattle.gd_input.proofs.CutLemmas.{filled}
use Rattle.gd_input.specs.declared.reader.TheConstants.{SIZE}
use Rattle.gd_input.proofs.reader.LineReader.fill.Goals as goal

pub returns-clause-takes : goal.returns-clause-takes
returns-clause-takes g c = record {
  taken = take c.in_ok-count.count c.read.new.buf;
  handed = c.in_ok-count.ensures.handed;
  are = filled c.self.inside.start c.self.inside.end c.in_ok-count.count
      (SIZE - (c.self.inside.end - c.self.inside.start)) c.self.inside.bytes c.move_to_front.new.bytes c.read.new.buf
      c.args.self.now
      c.self.view_is c.move_to_front.ensures (omega arith) c.in_ok-count.ensures.size;
}
