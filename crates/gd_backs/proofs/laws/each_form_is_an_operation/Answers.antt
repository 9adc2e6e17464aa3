use Rattle.gd_backs.proofs.Traces.{form_of_op}
use Rattle.gd_backs.proofs.laws.each_form_is_an_operation.Goals as goal

pub returns : goal.returns
returns c = form_of_op
