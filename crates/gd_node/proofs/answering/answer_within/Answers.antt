use Rattle.std.proofs.Common.{refl, sym, ◌∙◌}
use Rattle.gd_dialogue.proofs.Carrying.{carries_exit, carries_none, carries_ok}
use Rattle.gd_node.proofs.States.{carries_end, carries_wait}
use Rattle.gd_node.specs.Conversing.{for_within}
use Rattle.gd_node.proofs.answering.answer_within.Goals as goal

pub returns-in_err-carry_out-clause-carries : goal.returns-in_err-carry_out-clause-carries
returns-in_err-carry_out-clause-carries g c =
    carries_end c.args.waiting c.args.line (sym c.ends_gesture.ensures ∙ c.if-ends_gesture.true) _
    (carries_exit _ c.from_residual.ensures.1 c.in_err-carry_out.ensures)

pub returns-then-ends_gesture-clause-carries : goal.returns-then-ends_gesture-clause-carries
returns-then-ends_gesture-clause-carries g c =
    carries_end c.args.waiting c.args.line (sym c.ends_gesture.ensures ∙ c.if-ends_gesture.true) _
    (carries_ok _ c.in_ok-carry_out.ensures)

pub returns-in_err-wait-clause-carries : goal.returns-in_err-wait-clause-carries
returns-in_err-wait-clause-carries g c =
    carries_exit _ c.from_residual-in_err-wait.ensures.1
    (carries_none {T = Unit {0}} (for_within c.args.waiting c.args.line) _ _ _ refl)

pub returns-clause-carries : goal.returns-clause-carries
returns-clause-carries g c =
    carries_wait c.args.waiting c.args.line (sym c.ends_gesture.ensures ∙ c.if-ends_gesture.false) _ _
