use Rattle.std.proofs.Common.{arith}
use Rattle.gd_grammar.specs.Spelling.{tie_bytes}
use Rattle.gd_grammar.proofs.Lengths.{tie_most}
use Rattle.gd_wire.proofs.WriteLoop.{written_start, written_more, written_end}
use Rattle.gd_wire.proofs.buffer.EventBytes.put_each_tie.Goals as goal

pub ties-init : goal.ties-init
ties-init c = written_start tie_bytes 23 _ _

pub ties-preserved : goal.ties-preserved
ties-preserved c = written_more tie_bytes 23 c.args.self.now c.ties.self _ c.args.ties.now c.ties.tie-index
    c.tie-item.result c.ties-test.true c.tie-item.is c.put_tie.ensures.bytes (tie_most c.tie-item.result)
    c.ties.invariant

pub returns : goal.returns
returns c = written_end tie_bytes 23 c.args.self.now c.ties.self c.args.ties.now c.ties.tie-index c.ties-test.false
    c.ties.invariant

pub put_tie-requires : goal.put_tie-requires
put_tie-requires c = omega (arith, c.ties.invariant.long, c.ties-test.true, c.requires)
