use Rattle.std.proofs.Common.{arith}
use Rattle.gd_canvas.specs.Kept.{op_of}
use Rattle.gd_canvas.proofs.TouchLemmas.{touch_count}
use Rattle.gd_canvas.proofs.touches.touch_count.Goals as goal

pub returns-clause-count : goal.returns-clause-count
returns-clause-count c =
    omega (
      arith,
      touch_count c.args.stamp (op_of c.args.kept.now),
      c.own_count.ensures.count c.args.stamp,
      c.tied_count.ensures.count,
    )
