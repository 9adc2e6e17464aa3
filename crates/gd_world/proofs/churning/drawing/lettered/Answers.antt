use Rattle.gd_world.proofs.DrawnLabels.{is_drawn_label}
use Rattle.gd_world.proofs.churning.drawing.lettered.Goals as goal

pub label_of-requires : goal.label_of-requires
label_of-requires c = is_drawn_label c.args.letter c.requires
