use Rattle.gd_backs.proofs.Traces.{no_trace, no_trace_again}
use Rattle.gd_backs.proofs.laws.a_back_leaves_no_trace.Goals as goal

pub returns-clause-once : goal.returns-clause-once
returns-clause-once c = no_trace

pub returns-clause-again : goal.returns-clause-again
returns-clause-again c = no_trace_again
