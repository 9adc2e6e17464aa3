use Rattle.gd_grammar.specs.Spelling.{tie_bytes}
use Rattle.gd_wire.proofs.WriteLoop.{Written}
use Rattle.gd_wire.proofs.buffer.EventBytes.put_each_tie.Given as goal

abbrev pub invariant-ties : goal.invariant-ties
invariant-ties l = Written tie_bytes 23 l.fn.self l.ties l.tie-index l.self
