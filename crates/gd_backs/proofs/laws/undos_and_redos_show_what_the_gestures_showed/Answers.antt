use Rattle.gd_backs.proofs.Turning.{in_a_row, is_met, shown_again, something_to_do}
use Rattle.gd_backs.proofs.laws.undos_and_redos_show_what_the_gestures_showed.Goals as goal

pub returns-clause-text : goal.returns-clause-text
returns-clause-text c = shown_again

pub returns-clause-in_a_row : goal.returns-clause-in_a_row
returns-clause-in_a_row c = in_a_row

pub returns-clause-something_to_do : goal.returns-clause-something_to_do
returns-clause-something_to_do c = something_to_do

pub returns-clause-refusals : goal.returns-clause-refusals
returns-clause-refusals c = is_met
