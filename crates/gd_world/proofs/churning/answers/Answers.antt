use Rattle.std.proofs.Common.{◌≡◌, ◌+◌, ◌*◌, ◌∙◌, ap, subst, arith}
use Rattle.std.specs.Prelude.{IfOk}
use Rattle.gd_answers.specs.Paying.{PaysFront}
use Rattle.gd_effects.specs.Effects.{cost}
use Rattle.gd_world.proofs.Played.{churned_is, plays_end, plays_exit}
use Rattle.gd_world.specs.Playing.{Follows}
use Rattle.gd_worlds.specs.Churn.{Churning, churned, new_churning, rounded, rounds_to_all, stepped, summary, times}
use Rattle.gd_world.proofs.churning.answers.Goals as goal

pub run-requires-clause-ready : goal.run-requires-clause-ready
run-requires-clause-ready g c =
    let steps = c.args.steps.now in
    (0, new_churning c.args.seed, steps, c.in_ok-churning.ensures steps, omega arith)

pub returns-in_err-run : goal.returns-in_err-run
returns-in_err-run g c =
    let steps = c.args.steps.now in
    plays_exit (churned c.args.seed c.args.count) steps c.run.new.steps _ c.from_residual-in_err-run.result
    c.from_residual-in_err-run.ensures.1
    (subst (λ (d : Churning). PaysFront steps d.work c.run.new.steps) (churned_is c.args.seed c.args.count)
    (c.in_err-run.ensures 0 (new_churning c.args.seed) steps (c.in_ok-churning.ensures steps)))

pub summary-requires : goal.summary-requires
summary-requires g c =
    let steps = c.args.steps.now in
    let whole = rounded (rounds_to_all (4 + c.args.count) (times c.args.count stepped (new_churning c.args.seed))) in
    let h : Follows (0 + c.args.count + 24 * (5 + c.args.count)) whole steps c.run.new.self c.run.new.steps
    = c.in_ok-run.ensures 0 (new_churning c.args.seed) steps (c.in_ok-churning.ensures steps) in
    h.world.members ∙ h.sites

pub returns : goal.returns
returns g c =
    let steps = c.args.steps.now in
    let whole = rounded (rounds_to_all (4 + c.args.count) (times c.args.count stepped (new_churning c.args.seed))) in
    let h : Follows (0 + c.args.count + 24 * (5 + c.args.count)) whole steps c.run.new.self c.run.new.steps
    = c.in_ok-run.ensures 0 (new_churning c.args.seed) steps (c.in_ok-churning.ensures steps) in
    let is = churned_is c.args.seed c.args.count in
    plays_end (churned c.args.seed c.args.count) steps c.run.new.steps c.summary.result
    (subst (λ (d : Churning). IfOk c.summary.result (λ replies. replies ≡ summary d.world d.counts)) is
    (rw h.counts at (c.summary.ensures whole.world h.world)))
    (h.paid ∙ ap (λ (d : Churning). steps + cost d.work) is)
