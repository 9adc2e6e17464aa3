use Rattle.gd_member.proofs.Logs.{none_found}
use Rattle.gd_member.proofs.laws.an_empty_journal_is_found.Goals as goal

pub returns : goal.returns
returns c = none_found
