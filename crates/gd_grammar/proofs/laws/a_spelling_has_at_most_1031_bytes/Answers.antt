use Rattle.gd_grammar.proofs.ExactEvent.{spelling-length}
use Rattle.gd_grammar.proofs.laws.a_spelling_has_at_most_1031_bytes.Goals as goal

pub returns : goal.returns
returns g c = λ kind laws version. spelling-length laws version
