use Rattle.gd_outside.proofs.ReceiveLemmas.{one_answer, some_answer}
use Rattle.gd_outside.proofs.laws.a_receive_has_one_answer.Goals as goal

pub returns-clause-some : goal.returns-clause-some
returns-clause-some c = some_answer

pub returns-clause-one : goal.returns-clause-one
returns-clause-one c = λ entries a h. one_answer entries a.received a.buffer a.left h.0 h.1
