use Rattle.std.proofs.Common.{List, length, sym, ◌∙◌, ap, arith}
use Rattle.gd_events.specs.Events.{Event}
use Rattle.gd_member.proofs.Judgings.{carried_out, carried_short, judged_few, judged_paid}
use Rattle.gd_member.specs.Gestures.{asked_in}
use Rattle.gd_member.proofs.gestures.carry_out.Goals as goal

pub overflow_sub-result : goal.overflow_sub-result
overflow_sub-result g c =
    let s = c.in_ok-count.ensures c.requires.0 c.requires.1 in
    let es_are = c.as_slice-2.ensures ∙ c.in_ok-events.ensures.events in
    omega (arith, judged_few s, ap (λ (l : List Event). length l) es_are)

pub returns-in_err-count : goal.returns-in_err-count
returns-in_err-count g c slow written others stands are =
    carried_short slow written others (asked_in c.args.lines.now) c.from_residual.result c.from_residual.ensures.0 _ _ _
    _ _
    (c.in_err-count.ensures slow stands.site)

pub returns-in_err-events : goal.returns-in_err-events
returns-in_err-events g c slow written others stands are =
    carried_short slow written others (asked_in c.args.lines.now) c.from_residual-in_err-events.result
    c.from_residual-in_err-events.ensures.0 _ _ _ _ _
    (judged_paid (c.in_ok-count.ensures slow stands.site))

pub returns-in_err-add_all : goal.returns-in_err-add_all
returns-in_err-add_all g c slow written others stands are =
    carried_short slow written others (asked_in c.args.lines.now) c.from_residual-in_err-add_all.result
    c.from_residual-in_err-add_all.ensures.0 _ _ _ _ _
    (judged_paid (c.in_ok-count.ensures slow stands.site))

pub returns-in_err-add : goal.returns-in_err-add
returns-in_err-add g c slow written others stands are =
    carried_short slow written others (asked_in c.args.lines.now) c.from_residual-in_err-add.result
    c.from_residual-in_err-add.ensures.0 _ _ _ _ _
    (judged_paid (c.in_ok-count.ensures slow stands.site))

pub returns : goal.returns
returns g c slow written others stands are =
    let s = c.in_ok-count.ensures slow stands.site in
    let es_are = c.as_slice.ensures ∙ c.in_ok-events.ensures.events in
    let same = ap (λ (l : List Event). length l) (c.as_slice-2.ensures ∙ sym c.as_slice.ensures) in
    let few = judged_few s in
    carried_out slow written others (asked_in c.args.lines.now) c.args.site.now c.args.backs.now c.keep.new.self stands
    s
    c.in_ok-events.ensures.kept c.as_slice.result.now es_are c.add_all.new.self
    (c.in_ok-add_all.ensures written others are) c.add.new.self
    c.in_ok-add.ensures _ (omega (arith, few, same, ap (λ (l : List Event). length l) es_are))
