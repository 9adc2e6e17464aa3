use Rattle.std.proofs.Common.{sym, ap, length, subst, arith}
use Rattle.gd_world.proofs.Who.{AreUpTo, up_to_all, up_to_next, up_to_none}
use Rattle.gd_world.proofs.telling.who.Goals as goal

pub loop-before-init : goal.loop-before-init
loop-before-init c slow stands = subst (AreUpTo slow 0) (sym c.new-replies.ensures) (up_to_none slow)

pub loop-before-preserved : goal.loop-before-preserved
loop-before-preserved c slow stands =
    up_to_next slow c.loop-before.before c.loop-before.replies (c.loop-before.invariant slow stands) _
    (omega (arith, c.sites-before-end.ensures.slow slow stands, c.loop-before-test.true))
    (c.in_ok-push_site.ensures slow stands)

pub returns-clause-ok : goal.returns-clause-ok
returns-clause-ok c slow stands =
    up_to_all slow c.loop-before.before c.loop-before.replies (c.loop-before.invariant slow stands) _ _
    (omega (arith, c.sites-before-end.ensures.slow slow stands, c.loop-before-test.false))
    (ap length c.as_slice.ensures) c.in_ok-push.ensures
