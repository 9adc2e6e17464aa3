use Rattle.std.proofs.Common.{length}
use Rattle.gd_handover.proofs.PieceLemmas.{PutKnown}
use Rattle.gd_handover.proofs.pieces.put_all_known.Given as goal

abbrev pub invariant-sites : goal.invariant-sites
invariant-sites l = PutKnown l.fn.all l.fn.out l.left l.out

abbrev pub decreases-sites : goal.decreases-sites
decreases-sites l = length l.left
