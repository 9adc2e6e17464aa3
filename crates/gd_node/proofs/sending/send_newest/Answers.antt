use Rattle.std.proofs.Common.{ap, arith}
use Rattle.gd_effects.proofs.Doing.{along_done, along_from, along_then}
use Rattle.gd_node.proofs.Links.{takes_none, takes_none_then}
use Rattle.gd_node.proofs.SlowFrames.{tries_end, tries_turn}
use Rattle.gd_reference.specs.SiteEffects.{tries_behind, try_with}
use Rattle.gd_node.proofs.sending.send_newest.Goals as goal

pub loop-before-init : goal.loop-before-init
loop-before-init g c = record {
  sends = λ slow stands input output journal steps. along_from _ _
      (ap (tries_behind (try_with slow c.args.count) 0) (omega arith));
  takes = takes_none _;
}

pub loop-before-preserved : goal.loop-before-preserved
loop-before-preserved g c = record {
  sends = λ slow stands input output journal steps.
      along_then _ (c.loop-before.invariant.sends slow stands input output journal steps)
      (λ t. tries_turn (try_with slow c.args.count) c.loop-before.before _ _
      (omega (arith, c.sites-before-end.ensures.slow slow stands, c.loop-before-test.true)))
      (c.send_newest_to.ensures.sends slow stands input output journal steps);
  takes = takes_none_then c.loop-before.invariant.takes c.send_newest_to.ensures.takes;
}

pub returns-clause-sends : goal.returns-clause-sends
returns-clause-sends g c slow stands input output journal steps =
    along_done _ (c.loop-before.invariant.sends slow stands input output journal steps)
    (λ t. tries_end (try_with slow c.args.count) _ _
    (omega (arith, c.sites-before-end.ensures.slow slow stands, c.loop-before-test.false)))
