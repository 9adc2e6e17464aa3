use Rattle.std.proofs.Common.{◌+◌, ◌*◌, refl, arith}
use Rattle.gd_world.proofs.ChurnWork.{grows_round, grows_then, to_all_grows}
use Rattle.gd_world.proofs.Following.{gets_as, gets_exit, ready_less}
use Rattle.gd_worlds.specs.Churn.{rounded, rounds_to_all, stepped, times}
use Rattle.gd_world.proofs.churning.playing.Churning.run.Goals as goal

pub steps-requires : goal.steps-requires
steps-requires g c = ready_less _ c.args.count _ _ (omega arith) c.requires.ready

pub returns-in_err-steps : goal.returns-in_err-steps
returns-in_err-steps g c lines slow before follows =
    let played = times c.args.count stepped slow in
    gets_exit _ _ _ c.from_residual.result c.from_residual.ensures.1
    (grows_then (to_all_grows (4 + c.args.count) played) (grows_round (rounds_to_all (4 + c.args.count) played)))
    (c.in_err-steps.ensures lines slow before follows)

pub rounds_to_all-requires : goal.rounds_to_all-requires
rounds_to_all-requires g c =
    let r = c.requires.ready in
    (r.0 + c.args.count, times c.args.count stepped r.1, r.2, c.in_ok-steps.ensures r.0 r.1 r.2 r.3, omega (arith, r.4))

pub returns-in_err-rounds_to_all : goal.returns-in_err-rounds_to_all
returns-in_err-rounds_to_all g c lines slow before follows =
    let played = times c.args.count stepped slow in
    gets_exit _ _ _ c.from_residual-in_err-rounds_to_all.result c.from_residual-in_err-rounds_to_all.ensures.1
    (grows_round (rounds_to_all (4 + c.args.count) played))
    (c.in_err-rounds_to_all.ensures (lines + c.args.count) played before
    (c.in_ok-steps.ensures lines slow before follows))

pub round-requires : goal.round-requires
round-requires g c =
    let r = c.requires.ready in
    let played = times c.args.count stepped r.1 in (
      r.0 + c.args.count + 24 * (4 + c.args.count),
      rounds_to_all (4 + c.args.count) played,
      r.2,
      c.in_ok-rounds_to_all.ensures (r.0 + c.args.count) played r.2 (c.in_ok-steps.ensures r.0 r.1 r.2 r.3),
      omega (arith, r.4),
    )

pub returns : goal.returns
returns g c lines slow before follows =
    let played = times c.args.count stepped slow in
    let lines_then = lines + c.args.count + 24 * (4 + c.args.count) in
    gets_as (lines_then + 24) (lines + c.args.count + 24 * (5 + c.args.count)) before c.round.new.steps _ _
    c.round.new.self (omega arith) refl c.round.result
    (c.round.ensures lines_then (rounds_to_all (4 + c.args.count) played) before
    (c.in_ok-rounds_to_all.ensures (lines + c.args.count) played before
    (c.in_ok-steps.ensures lines slow before follows)))
