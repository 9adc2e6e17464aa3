use Rattle.std.proofs.Common.{[], sym}
use Rattle.gd_base.specs.declared.version.Version.TheVariants.{Three}
use Rattle.gd_grammar.proofs.ChainLemmas.{none-are}
use Rattle.gd_grammar.specs.Drawings.{drawings}
use Rattle.gd_logs.proofs.WriterLemmas.{first-gate}
use Rattle.gd_member.proofs.unwritten.Unwritten.new.Goals as goal

pub returns : goal.returns
returns c = c.behind.ensures [] (sym (first-gate drawings Three)) (rw c.new.ensures (none-are drawings))
