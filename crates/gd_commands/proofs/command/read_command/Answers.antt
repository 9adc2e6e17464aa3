use Rattle.gd_commands.proofs.Ranges.{ok_in_range}
use Rattle.gd_commands.proofs.command.read_command.Goals as goal

pub returns-in-Some-clause-in_range : goal.returns-in-Some-clause-in_range
returns-in-Some-clause-in_range c = ok_in_range _ _ c.read_named.ensures.asked
