use Rattle.std.proofs.Common.{◌+◌, arith}
use Rattle.gd_world.proofs.Counting.{counted_more, few_as, few_more}
use Rattle.gd_worlds.specs.Churn.{with_reply}
use Rattle.gd_world.proofs.churning.counting.Counts.add_all.Goals as goal

pub add-requires : goal.add-requires
add-requires c = let r = c.requires in (r.0 + c.loop-reply.reply-index, c.loop-reply.invariant.few r.0 r.1, omega arith)

pub loop-reply-preserved : goal.loop-reply-preserved
loop-reply-preserved c = record {
  counted = counted_more _ _ _ _ with_reply _ _ _ c.loop-reply-test.true c.reply-item.is c.loop-reply.invariant.counted
      c.add.ensures.counted;
  few = λ most few. few_as _ (omega arith) (c.add.ensures.few _ (c.loop-reply.invariant.few most few));
}

pub returns-clause-few : goal.returns-clause-few
returns-clause-few c most few = few_more _ (omega arith) (c.loop-reply.invariant.few most few)
