use Rattle.std.proofs.Common.{length}
use Rattle.gd_arriving.proofs.ArrivalLemmas.{Arriving}
use Rattle.gd_arriving.proofs.arriving.arrived_from.Given as goal

abbrev pub invariant-arrivals : goal.invariant-arrivals
invariant-arrivals g l =
    Arriving g.D.Document.rules g.D.Document.meaning (g.D.Document.meaning l.fn.base) l.fn.line l.fn.events l.history
    l.tally l.left l.initial.steps l.steps

abbrev pub decreases-arrivals : goal.decreases-arrivals
decreases-arrivals g l = length l.left
