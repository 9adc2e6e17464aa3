use Rattle.gd_commands.proofs.PlainForms.{plain_is_asked}
use Rattle.gd_commands.proofs.laws.plain_words_are_taken.Goals as goal

pub returns : goal.returns
returns c = plain_is_asked
