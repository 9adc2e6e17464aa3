use Rattle.std.proofs.Common.{◌≡◌, ℕ, ◌+◌, sym, ap, arith}
use Rattle.gd_world.proofs.ChurnWork.{grows_step, times_front, times_none, times_one_more}
use Rattle.gd_world.proofs.Following.{follows_as, gets_exit}
use Rattle.gd_worlds.specs.Churn.{stepped, times}
use Rattle.gd_world.proofs.churning.playing.Churning.steps.Goals as goal

pub loop-done-init : goal.loop-done-init
loop-done-init g c lines slow before follows = follows_as _ _ _ _ _ _ _ (omega arith) (times_none stepped slow) follows

pub step-requires : goal.step-requires
step-requires g c =
    let r = c.requires in (
      r.0 + c.loop-done.done,
      times c.loop-done.done stepped r.1,
      r.2,
      c.loop-done.invariant r.0 r.1 r.2 r.3,
      omega
          (arith, r.4, c.loop-done-test.true),
    )

pub returns-in_err-step : goal.returns-in_err-step
returns-in_err-step g c lines slow before follows =
    let so_far = times c.loop-done.done stepped slow in
    gets_exit (lines + c.args.count) _ _ c.from_residual.result c.from_residual.ensures.1
    (times_front stepped grows_step c.loop-done.done c.args.count slow c.loop-done-test.true)
    (c.in_err-step.ensures (lines + c.loop-done.done) so_far before (c.loop-done.invariant lines slow before follows))

pub loop-done-preserved : goal.loop-done-preserved
loop-done-preserved g c lines slow before follows =
    let so_far = times c.loop-done.done stepped slow in
    follows_as (lines + c.loop-done.done + 1) (lines + (c.loop-done.done + 1)) _ _ _ _ _ (omega arith)
    (sym (times_one_more stepped c.loop-done.done slow))
    (c.in_ok-step.ensures (lines + c.loop-done.done) so_far before (c.loop-done.invariant lines slow before follows))

pub returns : goal.returns
returns g c lines slow before follows =
    let done : c.loop-done.done ≡ c.args.count = omega arith in
    follows_as (lines + c.loop-done.done) (lines + c.args.count) _ _ _ _ _ (omega arith)
    (ap (λ (n : ℕ). times n stepped slow) done) (c.loop-done.invariant lines slow before follows)
