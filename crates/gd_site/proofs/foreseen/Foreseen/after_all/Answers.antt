use Rattle.std.proofs.Common.{arith}
use Rattle.gd_site.proofs.Offered.{foreseen-all, foreseen-more}
use Rattle.gd_site.proofs.foreseen.Foreseen.after_all.Goals as goal

pub offers-preserved : goal.offers-preserved
offers-preserved c =
    foreseen-more _ _ c.offers.so _ c.offers.event-index c.event-item.result
    (omega (arith, c.offers-test.true)) c.event-item.is
    c.after-so.ensures c.offers.invariant

pub returns : goal.returns
returns c = foreseen-all _ _ c.offers.so c.offers.event-index (omega (arith, c.offers-test.false)) c.offers.invariant
