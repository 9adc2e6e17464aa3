use Rattle.std.proofs.Common.{refl, ap, ◌∙◌}
use Rattle.std.specs.Prelude.{◌++◌}
use Rattle.gd_lines.specs.declared.command.Turn.TheVariants.{Undo}
use Rattle.gd_rows.proofs.ByDrawing.{drawn_compute}
use Rattle.gd_rows.proofs.Computing.{computing}
use Rattle.gd_rows.proofs.Turned.{behind-drawn, shown_of, turned_drawn}
use Rattle.gd_rows.specs.WorkedBacks.{far, turns}
use Rattle.gd_rows.proofs.back_rows.an_undo_shows_what_was_out_of_the_range.Goals as goal

pub returns : goal.returns
unfolding computing drawn_compute turned_drawn
returns c = ap shown_of (behind-drawn (far ++ turns 1 Undo)) ∙ refl
