use Rattle.std.proofs.Common.{◌≡◌, ℕ, ◌+◌, ◌*◌, fold, take, sym, ap, arith}
use Rattle.std.proofs.lemmas.List.Sums.{fold_more}
use Rattle.gd_world.proofs.ChurnWork.{passage_front}
use Rattle.gd_world.proofs.Following.{follows_as, gets_exit}
use Rattle.gd_worlds.specs.Churn.{passages, passed}
use Rattle.gd_world.proofs.churning.playing.Churning.round.Goals as goal

pub pass-requires : goal.pass-requires
pass-requires g c =
    let r = c.requires in (
      r.0 + 2 * c.loop-passage.passage-index,
      fold passed r.1 (take c.loop-passage.passage-index passages),
      r.2,
      c.loop-passage.invariant r.0 r.1 r.2 r.3,
      omega (arith, r.4, c.loop-passage-test.true),
    )

pub returns-in_err-pass : goal.returns-in_err-pass
returns-in_err-pass g c lines slow before follows =
    let k = c.loop-passage.passage-index in
    let so_far = fold passed slow (take k passages) in
    gets_exit (lines + 24) c.pass.new.self _ c.from_residual.result c.from_residual.ensures.1
    (passage_front slow passages k (0, 0) c.loop-passage-test.true)
    (c.in_err-pass.ensures (lines + 2 * k) so_far before (c.loop-passage.invariant lines slow before follows))

pub loop-passage-preserved : goal.loop-passage-preserved
loop-passage-preserved g c lines slow before follows =
    let k = c.loop-passage.passage-index in
    let so_far = fold passed slow (take k passages) in
    follows_as (lines + 2 * k + 2) (lines + 2 * (k + 1)) before c.pass.new.steps _ _ c.pass.new.self (omega arith)
    (sym (fold_more passed slow passages k (0, 0) c.loop-passage-test.true))
    (c.in_ok-pass.ensures (lines + 2 * k) so_far before (c.loop-passage.invariant lines slow before follows))

pub returns : goal.returns
returns g c lines slow before follows =
    let done : c.loop-passage.passage-index ≡ 12 = omega arith in
    follows_as (lines + 2 * c.loop-passage.passage-index) (lines + 24) before c.loop-passage.steps _ _
    c.loop-passage.self (omega arith) (ap (λ (k : ℕ). fold passed slow (take k passages)) done)
    (c.loop-passage.invariant lines slow before follows)
