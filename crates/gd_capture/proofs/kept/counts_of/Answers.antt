use Rattle.std.proofs.Common.{arith, subst, sym, ℕ, List}
use Rattle.gd_capture.proofs.Keeping.{CountedTo, counted_all, counted_more, counted_none}
use Rattle.gd_capture.proofs.kept.counts_of.Goals as goal

pub loop-before-init : goal.loop-before-init
loop-before-init c slow stands
    = subst (λ (numbers : List ℕ). CountedTo slow numbers 0) (sym c.new-numbers.ensures) (counted_none slow)

pub loop-before-preserved : goal.loop-before-preserved
loop-before-preserved c slow stands =
    let few = c.stands.ensures.peers.sites_to in
    counted_more slow c.loop-before.numbers c.loop-before.before (c.loop-before.invariant slow stands)
    (omega arith, omega (arith, few, c.loop-before-test.true, c.sites-before-end.ensures.sites)) c.count.result
    (c.count.ensures slow stands) c.put.new.self c.put.ensures

pub returns : goal.returns
returns c slow stands =
    let all = c.sites-before-end.ensures.slow slow stands in
    counted_all slow stands.well c.loop-before.numbers c.loop-before.before
    (omega (arith, all, c.loop-before-test.false, c.loop-before.auto.before-end))
    (c.loop-before.invariant slow stands)
