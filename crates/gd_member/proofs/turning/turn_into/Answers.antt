use Rattle.std.proofs.Common.{subst, ◌++◌}
use Rattle.std.proofs.lemmas.Result.{err_from_is_err_and}
use Rattle.gd_member.proofs.Edits.{turn_unmade, turn_unpaid}
use Rattle.gd_member.specs.Unwritten.{AreUnwritten}
use Rattle.gd_member.proofs.turning.turn_into.Goals as goal

pub returns-in_err-add_all-clause-answer : goal.returns-in_err-add_all-clause-answer
returns-in_err-add_all-clause-answer g c =
    let p = err_from_is_err_and c.from_residual-in_err-add_all.result c.from_residual-in_err-add_all.ensures.1 in
    rw (p.1, p.2) (λ slow stands. turn_unmade _ _ (c.in_ok-events.ensures.answer slow stands))

pub returns-in_err-add_all-clause-steps : goal.returns-in_err-add_all-clause-steps
returns-in_err-add_all-clause-steps g c =
    let p = err_from_is_err_and c.from_residual-in_err-add_all.result c.from_residual-in_err-add_all.ensures.1 in
    rw (p.1, p.2) (λ slow stands.
    turn_unpaid _ _ (c.in_ok-events.ensures.answer slow stands) (c.in_ok-events.ensures.steps slow stands))

pub returns-clause-unwritten : goal.returns-clause-unwritten
returns-clause-unwritten g c written others are =
    subst (λ es. AreUnwritten written (others ++ es) c.add_all.new.self) c.as_slice.ensures
    (c.in_ok-add_all.ensures written others are)
