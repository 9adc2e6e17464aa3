use Rattle.gd_commands.proofs.Ranges.{asked_in_range}
use Rattle.gd_commands.proofs.laws.what_is_asked_is_in_range.Goals as goal

pub returns : goal.returns
returns c = asked_in_range
