use Rattle.std.proofs.Common.{ap, arith, length}
use Rattle.std.proofs.lemmas.Result.{err_from_is_err_and}
use Rattle.gd_member.proofs.Edits.{refused_as}
use Rattle.gd_member.specs.Standing.{Stands}
use Rattle.gd_member.proofs.member.Member.turn.Goals as goal

pub returns-in_err-events-clause-answer : goal.returns-in_err-events-clause-answer
returns-in_err-events-clause-answer g c =
    let p = err_from_is_err_and c.from_residual.result c.from_residual.ensures.1 in
    rw (p.1, p.2) c.in_err-events.ensures.answer

pub returns-in_err-events-clause-keeps : goal.returns-in_err-events-clause-keeps
returns-in_err-events-clause-keeps g c =
    let p = err_from_is_err_and c.from_residual.result c.from_residual.ensures.1 in
    rw (p.1, p.2) (λ slow written st.
    refused_as (Stands slow written c.turn_events.new.self) c.in_err-events.field-0.0
    (c.in_err-events.ensures.keeps slow written st))

pub returns-in_err-events-clause-steps : goal.returns-in_err-events-clause-steps
returns-in_err-events-clause-steps g c =
    let p = err_from_is_err_and c.from_residual.result c.from_residual.ensures.1 in
    rw (p.1, p.2) c.in_err-events.ensures.steps

pub returns-clause-answer : goal.returns-clause-answer
returns-clause-answer g c slow written st =
    (c.in_ok-events.events, c.in_ok-events.ensures.answer slow written st, ap length c.as_slice.ensures)

pub returns-clause-steps : goal.returns-clause-steps
returns-clause-steps g c slow written st =
    omega (arith, c.in_ok-events.ensures.steps slow written st, ap length c.as_slice.ensures)
