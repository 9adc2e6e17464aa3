use Rattle.std.proofs.Common.{arith}
use Rattle.gd_effects.proofs.Doing.{along_done, along_from, along_then}
use Rattle.gd_node.proofs.Links.{takes_none, takes_none_then}
use Rattle.gd_node.proofs.SlowFrames.{further_end, further_none, further_turn, most_left}
use Rattle.gd_node.proofs.sending.send_further.Goals as goal

pub loop-sent-init : goal.loop-sent-init
loop-sent-init g c = record {
  sends = λ slow stands input output journal steps.
      along_from _ _ (most_left slow c.args.to c.args.start _ _ (omega arith));
  takes = takes_none _;
  unacked = c.requires.unacked;
}

pub send_behind-behind-requires-clause-unacked : goal.send_behind-behind-requires-clause-unacked
send_behind-behind-requires-clause-unacked g c = c.loop-sent.invariant.unacked

pub loop-sent-preserved : goal.loop-sent-preserved
loop-sent-preserved g c =
    let i = c.loop-sent.invariant in
    record {
      sends = λ slow stands input output journal steps.
          along_then _ (i.sends slow stands input output journal steps)
          (λ t. further_turn slow c.args.to c.loop-sent.behind c.made.result c.send_behind-behind.result _ _
          (omega (arith, c.loop-sent-test.true)) (c.made.ensures slow stands) (omega (arith, c.if-behind-made.false))
          (c.send_behind-behind.ensures.brought slow stands))
          (c.send_behind-behind.ensures.sends slow stands input output journal steps);
      takes = takes_none_then i.takes c.send_behind-behind.ensures.takes;
      unacked = omega (arith, i.unacked, c.send_behind-behind.ensures.rises);
    }

pub returns-then-behind-made-clause-sends : goal.returns-then-behind-made-clause-sends
returns-then-behind-made-clause-sends g c slow stands input output journal steps =
    let i = c.loop-sent.invariant in
    along_done _ (i.sends slow stands input output journal steps)
    (λ t. further_none slow c.args.to c.loop-sent.behind c.made.result _ (c.made.ensures slow stands)
    (omega (arith, c.if-behind-made.true)))

pub returns-then-behind-made-clause-takes : goal.returns-then-behind-made-clause-takes
returns-then-behind-made-clause-takes g c = c.loop-sent.invariant.takes

pub returns-clause-sends : goal.returns-clause-sends
returns-clause-sends g c slow stands input output journal steps =
    along_done _ (c.loop-sent.invariant.sends slow stands input output journal steps)
    (λ t. further_end slow c.args.to c.loop-sent.behind _ (omega (arith, c.loop-sent-test.false)))

pub returns-clause-takes : goal.returns-clause-takes
returns-clause-takes g c = c.loop-sent.invariant.takes
