use Rattle.gd_drawing.proofs.Moves.{as_moved}
use Rattle.gd_drawing.proofs.laws.the_drawing_is_that_of_moves.Goals as goal

pub returns : goal.returns
returns c = as_moved
