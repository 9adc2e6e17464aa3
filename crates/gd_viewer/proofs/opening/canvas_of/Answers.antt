use Rattle.gd_viewer.proofs.Parts.{placing_absent, placing_end, placing_next, placing_start}
use Rattle.gd_viewer.proofs.opening.canvas_of.Goals as goal

pub objects-init : goal.objects-init
objects-init c = rw c.into_objects-left.ensures (placing_start c.args.objects _ c.in_ok-canvas.ensures.board)

pub put-requires : goal.put-requires
put-requires c = record { absent = placing_absent c.objects.invariant c.requires c.in-Some.ensures }

pub objects-preserved : goal.objects-preserved
objects-preserved c = placing_next c.objects.invariant c.requires c.in-Some.ensures _ c.in_ok-put.ensures.ok

pub returns : goal.returns
returns c = placing_end c.objects.invariant c.in_default.ensures.0
