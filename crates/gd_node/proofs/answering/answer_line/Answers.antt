use Rattle.gd_dialogue.proofs.Carrying.{carries_exit, carries_ok}
use Rattle.gd_node.proofs.answering.answer_line.Goals as goal

pub returns-in_err-answer_alone-in-None-clause-carries : goal.returns-in_err-answer_alone-in-None-clause-carries
returns-in_err-answer_alone-in-None-clause-carries g c
    = rw c.in-None.is (carries_exit _ c.from_residual.ensures.1 c.in_err-answer_alone-in-None.ensures)

pub returns-in_ok-answer_alone-in-None-clause-carries : goal.returns-in_ok-answer_alone-in-None-clause-carries
returns-in_ok-answer_alone-in-None-clause-carries g c
    = rw c.in-None.is (carries_ok _ c.in_ok-answer_alone-in-None.ensures)

pub returns-in-Some-clause-carries : goal.returns-in-Some-clause-carries
returns-in-Some-clause-carries g c = rw c.in-Some.is c.answer_within.ensures.carries
