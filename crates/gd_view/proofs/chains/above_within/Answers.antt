use Rattle.std.proofs.Common.{◌≡◌, true, rules, ◌∙◌, sym, ap, subst, arith, ◌-◌, ◌+◌}
use Rattle.std.proofs.lemmas.Int.{ints}
use Rattle.std.specs.Prelude.{option_copied, is_some}
use Rattle.gd_view.specs.Chains.{first_parent, with_link, Within}
use Rattle.gd_view.proofs.ChainLemmas.{start, step, lost, cut}
use Rattle.gd_view.proofs.chains.above_within.Goals as goal

pub loop-turn-init : goal.loop-turn-init
loop-turn-init c = (
  start c.args.most _ _ _ _ (omega arith),
  record {
    left = omega (arith, ints);
    right = omega (arith, ints);
    up = omega (arith, ints);
    down
        = omega (arith, ints);
  },
)

pub returns-in_default-group_at-clause-above : goal.returns-in_default-group_at-clause-above
returns-in_default-group_at-clause-above c =
    lost c.loop-turn.next c.loop-turn.invariant.0 c.in-Some.link (c.args.most - (c.loop-turn.turn + 1)) c.in-Some.is
    (ap option_copied (sym c.in_default-group_at.is) ∙ c.group_at.ensures)
    (omega (arith, c.loop-turn-test.true))

pub loop-turn-preserved : goal.loop-turn-preserved
loop-turn-preserved c = (
  step c.loop-turn.next c.loop-turn.invariant.0 c.in-Some.link c.in-Some-group_at.group.now
      (c.args.most - (c.loop-turn.turn + 1)) c.with_link-sum.result c.in-Some.is
      (ap option_copied (sym c.in-Some-group_at.is) ∙ c.group_at.ensures)
      (omega (arith, c.loop-turn-test.true))
      (c.with_link-sum.ensures.sum
      ∙ ap (λ p. with_link c.loop-turn.sum p c.in-Some.link c.in-Some-group_at.group.now)
      (c.first_parent-parent.ensures ∙ ap (first_parent c.loop-turn.sum.parent) c.parent_by.ensures)),
  subst (λ n. Within n c.with_link-sum.result) (omega arith) c.with_link-sum.ensures.within,
)

pub returns-else-is_none-clause-above : goal.returns-else-is_none-clause-above
returns-else-is_none-clause-above c =
    let more : is_some c.loop-turn.next ≡ true = search rules in
    cut c.loop-turn.next c.loop-turn.invariant.0 more (omega (arith, c.loop-turn-test.false))
