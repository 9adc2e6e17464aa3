use Rattle.std.proofs.Common.{length, ap, ◌∙◌, arith}
use Rattle.gd_drawing.specs.Keys.{parts_meeting}
use Rattle.gd_canvas.specs.Kept.{op_of}
use Rattle.gd_canvas.proofs.KeyLemmas.{sought_count}
use Rattle.gd_canvas.proofs.keys.sought_count.Goals as goal

pub returns : goal.returns
returns c =
    let first = c.meeting_count-first.ensures.count
    ∙ ap (λ p. length (parts_meeting p)) (c.first_part.ensures c.args.stamp) in
    omega (arith, sought_count c.args.stamp (op_of c.args.kept.now), first, c.touch_count-touches.ensures.count)
