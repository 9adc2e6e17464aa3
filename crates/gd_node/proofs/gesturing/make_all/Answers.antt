use Rattle.std.proofs.Common.{◌≡◌, ℕ, ◌+◌, ◌≤◌, ◌∷◌, drop, length, refl, sym, ap, ◌∙◌, subst}
use Rattle.std.proofs.lemmas.List.{drop_all, drop_more}
use Rattle.gd_node.proofs.Gestures.{judged_all, judged_cut, judged_front, judged_more, judged_none}
use Rattle.gd_node.specs.Gesturing.{AreAsked}
use Rattle.gd_reference.specs.TakeBack.{Asked, made}
use Rattle.gd_takeback.specs.Making.{making}
use Rattle.gd_node.proofs.gesturing.make_all.Goals as goal

pub loop-each-init : goal.loop-each-init
loop-each-init g c = record {
  ranged = c.requires;
  judged = λ slow stands.
      judged_none slow c.args.asked.now (making c.args.site.now c.new-gesture.result) stands
      c.new-gesture.ensures.events c.new-gesture.ensures.back c.args.said.now c.args.steps.now;
}

pub loop-each-preserved : goal.loop-each-preserved
loop-each-preserved g c =
    let i = c.loop-each.each-index in
    let asked = c.args.asked.now in
    let each = c.each-item.result in
    let left : drop i asked ≡ each ∷ drop (i + 1) asked =
    drop_more asked i each c.loop-each-test.true ∙ ap (λ (x : Asked). x ∷ drop (i + 1) asked) (sym c.each-item.is) in
    record {
      ranged = (subst AreAsked left c.loop-each.invariant.ranged).1;
      judged = λ slow stands.
          judged_more slow asked c.args.said.now c.args.steps.now each (drop (i + 1) asked) left c.in_ok-reply.reply
          (c.loop-each.invariant.judged slow stands) c.in_ok-reply.ensures.judged c.in_ok-add.ensures;
    }

pub returns-clause-judged : goal.returns-clause-judged
returns-clause-judged g c slow stands =
    judged_all slow c.args.asked.now c.args.said.now c.args.steps.now
    (drop_all c.loop-each.each-index c.args.asked.now c.loop-each-test.false)
    (c.loop-each.invariant.judged slow stands)

pub returns-in_err-add-clause-judged : goal.returns-in_err-add-clause-judged
returns-in_err-add-clause-judged g c slow stands =
    let i = c.loop-each.each-index in
    let asked = c.args.asked.now in
    let each = c.each-item.result in
    let left : drop i asked ≡ each ∷ drop (i + 1) asked =
    drop_more asked i each c.loop-each-test.true ∙ ap (λ (x : Asked). x ∷ drop (i + 1) asked) (sym c.each-item.is) in
    judged_cut slow _ _ _ c.from_residual-in_err-add.result c.from_residual-in_err-add.ensures.1 _ _ _
    (judged_front slow asked c.args.said.now c.args.steps.now
    (judged_more slow asked c.args.said.now c.args.steps.now each (drop (i + 1) asked) left c.in_ok-reply.reply
    (c.loop-each.invariant.judged slow stands) c.in_ok-reply.ensures.judged refl))

pub returns-in_err-reply-clause-judged : goal.returns-in_err-reply-clause-judged
returns-in_err-reply-clause-judged g c slow stands =
    let asked = c.args.asked.now in
    let before = c.args.steps.now in
    judged_cut slow _ _ _ c.from_residual.result c.from_residual.ensures.1 _ _ _
    (subst (λ (n : ℕ). (before ≤ n) × (n ≤ before + length (made slow asked))) (sym c.in_err-reply.ensures.err_steps)
    (judged_front slow asked c.args.said.now before (c.loop-each.invariant.judged slow stands)))
