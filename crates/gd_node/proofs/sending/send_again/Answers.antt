use Rattle.std.proofs.Common.{arith}
use Rattle.gd_effects.proofs.Doing.{does_as, does_nothing}
use Rattle.gd_node.proofs.Links.{takes_none}
use Rattle.gd_node.proofs.SlowFrames.{again_none, again_some}
use Rattle.gd_node.proofs.sending.send_again.Goals as goal

pub returns-then-brought-made-clause-sends : goal.returns-then-brought-made-clause-sends
returns-then-brought-made-clause-sends g c slow stands acked_is brought_is input output journal steps =
    does_as
    (again_none slow c.args.to c.args.acked c.args.brought c.made.result acked_is brought_is
    (c.made.ensures slow stands) (omega (arith, c.if-brought-made.true)))
    (does_nothing _)

pub returns-then-brought-made-clause-takes : goal.returns-then-brought-made-clause-takes
returns-then-brought-made-clause-takes g c = takes_none _

pub returns-clause-sends : goal.returns-clause-sends
returns-clause-sends g c slow stands acked_is brought_is input output journal steps =
    does_as
    (again_some slow c.args.to c.args.acked c.args.brought c.made.result acked_is brought_is
    (c.made.ensures slow stands) (omega (arith, c.if-brought-made.false)))
    (c.send_further.ensures.sends slow stands input output journal steps)
