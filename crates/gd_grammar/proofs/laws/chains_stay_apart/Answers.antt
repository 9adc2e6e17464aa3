use Rattle.gd_grammar.proofs.ChainLaws.{chains-apart}
use Rattle.gd_grammar.proofs.laws.chains_stay_apart.Goals as goal

pub returns : goal.returns
returns c = chains-apart
