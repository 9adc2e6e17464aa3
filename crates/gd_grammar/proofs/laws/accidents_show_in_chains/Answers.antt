use Rattle.gd_grammar.proofs.ChainLaws.{accidents-show}
use Rattle.gd_grammar.proofs.laws.accidents_show_in_chains.Goals as goal

pub returns : goal.returns
returns c = accidents-show
