use Rattle.std.proofs.Common.{◌-◌, length}
use Rattle.gd_grammar.specs.declared.sizes.TheConstants.{EVENT_BYTES}
use Rattle.gd_handover.proofs.ReaderLemmas.{Waiting}
use Rattle.gd_handover.proofs.reader.Reader.next.Given as goal

abbrev pub invariant-piece : goal.invariant-piece
invariant-piece g l = Waiting g.P.Piece.read l.least l.fn.self l.self (g.S.Source.seen l.initial.source)
    (g.S.Source.seen l.source)

abbrev pub decreases-piece : goal.decreases-piece
decreases-piece g l = EVENT_BYTES - length l.self.ahead
