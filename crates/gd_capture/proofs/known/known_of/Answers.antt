use Rattle.std.proofs.Common.{◌∙◌, ap, arith, length, length-append}
use Rattle.gd_capture.proofs.Knowing.{known_none, known_pushed}
use Rattle.gd_capture.proofs.known.known_of.Goals as goal

pub loop-before-init : goal.loop-before-init
loop-before-init c = record
    { told = λ slow stands. c.new-known.ensures ∙ known_none slow 0; sized = ap length c.new-known.ensures }

pub loop-before-preserved : goal.loop-before-preserved
loop-before-preserved c =
    let was = c.loop-before.invariant in
    record {
      told = λ slow stands. known_pushed slow c.loop-before.before c.loop-before.known c.push.new.self c.known_at.result
          (was.told slow stands) (c.known_at.ensures slow stands) c.push.ensures;
      sized = let pushed = ap length c.push.ensures
          ∙ length-append c.loop-before.known _ in let sized = was.sized in omega (arith, pushed, sized);
    }
