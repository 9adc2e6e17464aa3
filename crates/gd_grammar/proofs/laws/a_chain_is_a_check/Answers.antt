use Rattle.gd_grammar.proofs.ChainLaws.{chained-check}
use Rattle.gd_grammar.proofs.laws.a_chain_is_a_check.Goals as goal

pub returns : goal.returns
returns c = chained-check
