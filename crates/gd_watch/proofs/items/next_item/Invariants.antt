use Rattle.std.proofs.Common.{◌+◌, ◌-◌, length}
use Rattle.gd_grammar.specs.declared.sizes.TheConstants.{FRAME_BYTES}
use Rattle.gd_handover.specs.Parts.{Grown}
use Rattle.gd_watch.proofs.items.next_item.Given as goal

abbrev pub invariant-more : goal.invariant-more
invariant-more g l = Grown l.fn.ahead l.ahead (g.S.Source.seen l.fn.input) (g.S.Source.seen l.input) ⊥

abbrev pub decreases-more : goal.decreases-more
decreases-more g l = FRAME_BYTES + 2 - length l.ahead
