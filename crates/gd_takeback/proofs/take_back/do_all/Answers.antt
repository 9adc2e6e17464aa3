use Rattle.std.proofs.Common.{◌≡◌, List, [], ◌∷◌, ap, ◌∙◌, subst, arith}
use Rattle.std.proofs.lemmas.List.{reverse-append}
use Rattle.std.specs.Prelude.{reverse}
use Rattle.gd_events.specs.Ops.{Op}
use Rattle.gd_takeback.proofs.Doing.{Doing, doing-end, doing-more, doing-none}
use Rattle.gd_takeback.proofs.Newest.{none-seen}
use Rattle.gd_takeback.specs.Making.{making}
use Rattle.gd_takeback.specs.Seen.{newest_first}
use Rattle.gd_takeback.proofs.take_back.do_all.Goals as goal

pub left-init : goal.left-init
left-init g c =
    λ slow stands may.
    doing-none slow (newest_first c.args.back) may c.args.steps.now _ stands c.new-gesture.ensures.events
    c.new-gesture.ensures.back

pub left-preserved : goal.left-preserved
left-preserved g c =
    let popped : newest_first c.left.left ≡ c.in-Some.op ∷ newest_first c.pop.new.self =
    ap (λ (ops : List Op). reverse ops) (rw c.in-Some.is at c.pop.ensures.items)
    ∙ reverse-append c.pop.new.self.items (c.in-Some.op ∷ []) in
    let makes = c.in_ok-turn.ensures.makes in
    let pays = c.in_ok-turn.ensures.steps in
    λ slow stands may.
    doing-more slow (newest_first c.args.back) c.args.steps.now c.left.steps (making c.left.site c.left.gesture)
    c.in-Some.op (newest_first c.pop.new.self)
    (subst
    (λ (ops : List Op). Doing slow (newest_first c.args.back) ops c.args.steps.now c.left.steps
    (making c.left.site c.left.gesture))
    popped (c.left.invariant slow stands may)) (making c.turn.new.site c.turn.new.self) c.turn.new.steps makes pays

pub returns : goal.returns
returns g c =
    let none = rw c.in_default.is at c.pop.ensures.cases in
    let empty : newest_first c.left.left ≡ [] = none-seen c.left.left.items (omega (arith, none.0)) in
    λ slow stands may.
    doing-end slow (newest_first c.args.back) c.args.steps.now c.left.steps (making c.left.site c.left.gesture)
    (subst
    (λ (ops : List Op). Doing slow (newest_first c.args.back) ops c.args.steps.now c.left.steps
    (making c.left.site c.left.gesture))
    empty (c.left.invariant slow stands may))
