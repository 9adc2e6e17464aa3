use Rattle.std.proofs.Common.{arith}
use Rattle.gd_member.proofs.Texts.{said_all_ok, said_more, said_none}
use Rattle.gd_member.proofs.asking.say_who.Goals as goal

pub loop-before-init : goal.loop-before-init
loop-before-init c = record { said = λ slow stands. said_none slow c.args.said.now; few = omega arith }

pub loop-before-preserved : goal.loop-before-preserved
loop-before-preserved c = record {
  said = λ slow stands.
      said_more slow (c.loop-before.invariant.said slow stands) _ _
      (omega (arith, c.sites-before-end.ensures.slow slow stands, c.loop-before-test.true))
      (c.in_ok-lines.ensures.said slow stands) (omega (arith, c.in_ok-lines.ensures.lines slow stands));
  few = omega (arith, c.loop-before.invariant.few, c.in_ok-lines.ensures.few);
}

pub returns : goal.returns
returns c slow stands =
    said_all_ok slow (c.loop-before.invariant.said slow stands) c.add.result _
    (omega (arith, c.sites-before-end.ensures.slow slow stands, c.loop-before-test.false)) c.add.ensures
