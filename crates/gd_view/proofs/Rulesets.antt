-- What proofs of the view use of drawings and boards.
use Rattle.gd_drawing.proofs.Listed.{find-listed}
use Rattle.gd_drawing.proofs.PrintedOrder.{shown-climbs}
use Rattle.gd_drawing.proofs.Sizes.{listed-len}

pub ruleset drawn = (find-listed, listed-len, shown-climbs)
