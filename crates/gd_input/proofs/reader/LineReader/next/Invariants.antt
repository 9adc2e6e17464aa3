use Rattle.std.proofs.Common.{◌-◌, length}
use Rattle.gd_outside.specs.Called.{SourceCalled}
use Rattle.gd_input.specs.Reading.{Takes}
use Rattle.gd_input.proofs.reader.LineReader.next.Given as goal

abbrev pub invariant-loop-end : goal.invariant-loop-end
invariant-loop-end g l = record {
  takes : Takes l.fn.self (g.S.Source.seen l.fn.input).left l.self (g.S.Source.seen l.input).left;
  called : SourceCalled (g.S.Source.seen l.fn.input) (g.S.Source.seen l.input) ⊥;
}

abbrev pub decreases-loop-end : goal.decreases-loop-end
decreases-loop-end g l = 65537 - length l.self
