use Rattle.gd_lines.specs.declared.command.Turn.TheVariants.{Undo, Redo}
use Rattle.gd_takeback.proofs.Standing.{turn_answer, turn_keeps, turn_stands, turn_steps}
use Rattle.gd_takeback.proofs.take_back.TakeBack.turn.Goals as goal

pub returns-in-Undo-clause-answer : goal.returns-in-Undo-clause-answer
returns-in-Undo-clause-answer g c =
    rw (c.in-Undo.is, ← c.self.view_is)
    (λ slow stands. turn_answer slow _ _ stands Undo c.pass_on.result _ _ _ (c.pass_on.ensures slow))

pub returns-in-Undo-clause-stands : goal.returns-in-Undo-clause-stands
returns-in-Undo-clause-stands g c =
    rw (c.in-Undo.is, ← c.self.view_is)
    (λ slow stands. turn_stands slow _ _ stands Undo c.pass_on.result _ _ _ (c.pass_on.ensures slow))

pub returns-in-Undo-clause-keeps : goal.returns-in-Undo-clause-keeps
returns-in-Undo-clause-keeps g c =
    rw (← c.self.view_is)
    (λ slow stands. turn_keeps slow _ _ stands Undo c.pass_on.result _ _ _ (c.pass_on.ensures slow))

pub returns-in-Undo-clause-steps : goal.returns-in-Undo-clause-steps
returns-in-Undo-clause-steps g c =
    rw (c.in-Undo.is, ← c.self.view_is)
    (λ slow stands. turn_steps slow _ _ stands Undo c.pass_on.result _ _ _ (c.pass_on.ensures slow))

pub returns-in-Redo-clause-answer : goal.returns-in-Redo-clause-answer
returns-in-Redo-clause-answer g c =
    rw (c.in-Redo.is, ← c.self.view_is)
    (λ slow stands. turn_answer slow _ _ stands Redo c.pass_on-in-Redo.result _ _ _ (c.pass_on-in-Redo.ensures slow))

pub returns-in-Redo-clause-stands : goal.returns-in-Redo-clause-stands
returns-in-Redo-clause-stands g c =
    rw (c.in-Redo.is, ← c.self.view_is)
    (λ slow stands. turn_stands slow _ _ stands Redo c.pass_on-in-Redo.result _ _ _ (c.pass_on-in-Redo.ensures slow))

pub returns-in-Redo-clause-keeps : goal.returns-in-Redo-clause-keeps
returns-in-Redo-clause-keeps g c =
    rw (← c.self.view_is)
    (λ slow stands. turn_keeps slow _ _ stands Redo c.pass_on-in-Redo.result _ _ _ (c.pass_on-in-Redo.ensures slow))

pub returns-in-Redo-clause-steps : goal.returns-in-Redo-clause-steps
returns-in-Redo-clause-steps g c =
    rw (c.in-Redo.is, ← c.self.view_is)
    (λ slow stands. turn_steps slow _ _ stands Redo c.pass_on-in-Redo.result _ _ _ (c.pass_on-in-Redo.ensures slow))
