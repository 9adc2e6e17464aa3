use Rattle.std.proofs.Common.{List, ◌++◌, sym, ap, ◌∙◌, subst}
use Rattle.std.specs.Prelude.{Err, replicate}
use Rattle.gd_base.proofs.Lists.{Every-prefix}
use Rattle.gd_base.specs.declared.refusal.Refusal.TheVariants.{GestureFull}
use Rattle.gd_node.proofs.Gestures.{all_judged, front_of_first, front_of_made, judged_cut}
use Rattle.gd_node.specs.Gesturing.{AreAsked}
use Rattle.gd_protocol.specs.Sites.{IsAsk}
use Rattle.gd_reference.specs.TakeBack.{Asked}
use Rattle.gd_node.proofs.gesturing.judge.Goals as goal

pub make_all-requires : goal.make_all-requires
make_all-requires g c =
    let over = replicate c.over-over.result (Err GestureFull) in
    let is = c.over-over.ensures ∙ ap (λ (l : List Asked). l ++ over) (sym c.first.ensures) in
    Every-prefix IsAsk c.first.result.now over (subst AreAsked is c.requires)

pub returns-in_err-gesture-clause-judged : goal.returns-in_err-gesture-clause-judged
returns-in_err-gesture-clause-judged g c =
    let over = replicate c.over-over.result (Err GestureFull) in
    let is = c.over-over.ensures ∙ ap (λ (l : List Asked). l ++ over) (sym c.first.ensures) in
    λ slow stands.
    judged_cut slow _ _ _ c.from_residual.result c.from_residual.ensures.1 _ _ _
    (front_of_first slow c.first.result.now c.over-over.result is (c.in_err-gesture.ensures.judged slow stands))

pub returns-clause-judged : goal.returns-clause-judged
returns-clause-judged g c slow stands =
    let over = replicate c.over-over.result (Err GestureFull) in
    let is = c.over-over.ensures ∙ ap (λ (l : List Asked). l ++ over) (sym c.first.ensures) in
    all_judged slow c.first.result.now c.over-over.result is c.count-count.result
    (c.in_ok-gesture.ensures.judged slow stands)
    c.in_ok-refuse_others.ensures c.count-count.ensures c.in_ok-add.ensures

pub returns-in_err-refuse_others-clause-judged : goal.returns-in_err-refuse_others-clause-judged
returns-in_err-refuse_others-clause-judged g c slow stands =
    let over = replicate c.over-over.result (Err GestureFull) in
    let is = c.over-over.ensures ∙ ap (λ (l : List Asked). l ++ over) (sym c.first.ensures) in
    judged_cut slow _ _ _ c.from_residual-in_err-refuse_others.result c.from_residual-in_err-refuse_others.ensures.1 _ _
    _
    (front_of_made slow c.first.result.now c.over-over.result is (c.in_ok-gesture.ensures.judged slow stands))

pub returns-in_err-add-clause-judged : goal.returns-in_err-add-clause-judged
returns-in_err-add-clause-judged g c slow stands =
    let over = replicate c.over-over.result (Err GestureFull) in
    let is = c.over-over.ensures ∙ ap (λ (l : List Asked). l ++ over) (sym c.first.ensures) in
    judged_cut slow _ _ _ c.from_residual-in_err-add.result c.from_residual-in_err-add.ensures.1 _ _ _
    (front_of_made slow c.first.result.now c.over-over.result is (c.in_ok-gesture.ensures.judged slow stands))
