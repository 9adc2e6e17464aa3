use Rattle.std.proofs.Common.{sym, ap₂, ◌∙◌}
use Rattle.std.proofs.lemmas.Result.{err_from_is_err_and}
use Rattle.gd_reference.specs.Backs.{kept}
use Rattle.gd_takeback.proofs.Passing.{broken, full, passed, refused}
use Rattle.gd_takeback.specs.Seen.{newest_first}
use Rattle.gd_takeback.proofs.take_back.pass_on.Goals as goal

pub returns-in_err-may_turn : goal.returns-in_err-may_turn
returns-in_err-may_turn g c =
    let p = err_from_is_err_and c.from_residual.result c.from_residual.ensures.1 in
    rw (p.1, p.2)
    (λ slow stands every.
    refused slow c.args.site.now stands c.args.due.now.gestures c.args.others.now.gestures c.in_err-may_turn.field-0.0
    (sym c.may_turn.ensures ∙ c.in_err-may_turn.was) c.args.steps.now)

pub returns-in_err-reserve : goal.returns-in_err-reserve
returns-in_err-reserve g c =
    let p = err_from_is_err_and c.from_residual-in_err-reserve.result c.from_residual-in_err-reserve.ensures.1 in
    rw (p.1, p.2)
    (λ slow stands every.
    full slow c.args.site.now stands c.args.due.now.gestures c.args.others.now.gestures
    (sym c.may_turn.ensures ∙ c.in_ok-may_turn.was) _ c.args.steps.now)

pub returns-in_err-gesture : goal.returns-in_err-gesture
returns-in_err-gesture g c =
    let p = err_from_is_err_and c.from_residual-in_err-gesture.result c.from_residual-in_err-gesture.ensures.1 in
    let room = sym c.may_turn.ensures ∙ c.in_ok-may_turn.was in
    let first = rw c.in-Some.is at c.take_newest.ensures in
    rw (p.1, p.2)
    (λ slow stands every.
    broken slow c.args.site.now stands c.args.due.now.gestures c.args.others.now.gestures
    c.take_newest.new.self.gestures (newest_first c.in-Some.back) first room every c.args.steps.now c.do_all.new.steps
    c.do_all.new.site _ (c.in_err-gesture.ensures slow) _)

pub returns : goal.returns
returns g c =
    let room = sym c.may_turn.ensures ∙ c.in_ok-may_turn.was in
    let first = rw c.in-Some.is at c.take_newest.ensures in
    rw c.into_parts-events.ensures.events
    (λ slow stands every.
    passed slow c.args.site.now stands c.args.due.now.gestures c.args.others.now.gestures
    c.take_newest.new.self.gestures (newest_first c.in-Some.back) first room every c.args.steps.now c.do_all.new.steps
    c.do_all.new.site _ (c.in_ok-gesture.ensures slow) _
    (c.keep.ensures ∙ ap₂ kept c.into_parts-events.ensures.back c.in_ok-reserve.ensures.gestures))
