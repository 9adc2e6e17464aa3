use Rattle.std.proofs.Common.{[], ◌∷◌, refl}
use Rattle.gd_member.proofs.Standing.{edit_held, stands_as, stands_more}
use Rattle.gd_reference.specs.TakeBack.{after_edit}
use Rattle.std.proofs.lemmas.Result.{err_from_is_err_and}
use Rattle.gd_member.proofs.member.Member.edit.Goals as goal

pub invariant_of-self : goal.invariant_of-self
invariant_of-self g c live =
    let met = c.self.invariant (rw (← c.self.view_is) at c.requires.live) in (
      met.0,
      met.1,
      stands_as met.2 refl live (c.in_err-event-in-Ok.ensures.err_stands met.0 met.2.stands)
          (λ others are. c.in-Ok.ensures.stays met.1 others are),
    )

pub returns-in_err-event-in-Ok-clause-err_stands : goal.returns-in_err-event-in-Ok-clause-err_stands
returns-in_err-event-in-Ok-clause-err_stands g c =
    let p = err_from_is_err_and c.from_residual.result c.from_residual.ensures.1 in
    rw p.1 (λ slow written st.
    let s = rw (← c.self.view_is) at st in
    stands_as s refl s.live (c.in_err-event-in-Ok.ensures.err_stands slow s.stands)
    (λ others are. c.in-Ok.ensures.stays written others are))

pub invariant_of-self-in-Ok : goal.invariant_of-self-in-Ok
invariant_of-self-in-Ok g c live =
    let met = c.self.invariant (rw (← c.self.view_is) at c.requires.live) in
    let made = c.in_ok-event-in-Ok.ensures in (
      after_edit met.0 c.args.edit.now,
      met.1,
      stands_more met.2 (c.in_ok-event-in-Ok.event ∷ [])
          (edit_held met.0 c.args.edit.now c.in_ok-event-in-Ok.event (made.answer met.0 met.2.stands)) live
          (made.stands met.0 met.2.stands)
          (λ others are. c.add.ensures met.1 others (c.in-Ok.ensures.stays met.1 others are)),
    )

pub invariant_of-self-in-Err : goal.invariant_of-self-in-Err
invariant_of-self-in-Err g c live =
    let met = c.self.invariant (rw (← c.self.view_is) at c.requires.live) in (
      met.0,
      met.1,
      stands_as met.2 refl live met.2.stands (λ others are. c.in-Err.ensures.stays met.1 others are),
    )

pub returns-in_ok-event-in-Ok-clause-answer : goal.returns-in_ok-event-in-Ok-clause-answer
returns-in_ok-event-in-Ok-clause-answer g c slow written st =
    let s = rw (← c.self.view_is) at st in
    (c.in_ok-event-in-Ok.event, c.in_ok-event-in-Ok.ensures.answer slow s.stands, c.stamp-stamp.ensures)

pub returns-in_ok-event-in-Ok-clause-stands : goal.returns-in_ok-event-in-Ok-clause-stands
returns-in_ok-event-in-Ok-clause-stands g c slow written st =
    let s = rw (← c.self.view_is) at st in
    let made = c.in_ok-event-in-Ok.ensures in
    stands_more s (c.in_ok-event-in-Ok.event ∷ [])
    (edit_held slow c.args.edit.now c.in_ok-event-in-Ok.event (made.answer slow s.stands)) s.live
    (made.stands slow s.stands)
    (λ others are. c.add.ensures written others (c.in-Ok.ensures.stays written others are))

pub returns-in-Err-clause-answer : goal.returns-in-Err-clause-answer
returns-in-Err-clause-answer g c slow written st =
    let s = rw (← c.self.view_is) at st in
    c.fault_without_memory.ensures slow s.stands.site

pub returns-in-Err-clause-err_stands : goal.returns-in-Err-clause-err_stands
returns-in-Err-clause-err_stands g c slow written st =
    let s = rw (← c.self.view_is) at st in
    stands_as s refl s.live s.stands (λ others are. c.in-Err.ensures.stays written others are)
