use Rattle.std.proofs.Common.{length}
use Rattle.gd_slots.specs.Slots.{board_of}
use Rattle.gd_viewer.proofs.Parts.{Placing}
use Rattle.gd_viewer.proofs.opening.canvas_of.Given as goal

abbrev pub invariant-objects : goal.invariant-objects
invariant-objects l = Placing l.fn.objects l.left (board_of l.canvas)

abbrev pub decreases-objects : goal.decreases-objects
decreases-objects l = length l.left
