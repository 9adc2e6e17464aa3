use Rattle.std.proofs.Common.{◌++◌, List, sym, ap}
use Rattle.std.proofs.lemmas.Result.{err_from_is_err_and}
use Rattle.gd_effects.proofs.Doing.{does_as, does_then}
use Rattle.gd_lines.specs.declared.reply.Reply.{Reply}
use Rattle.gd_reference.specs.Said.{all_said}
use Rattle.gd_world.proofs.Played.{does_cut, does_played}
use Rattle.gd_worlds.specs.Churn.{churned, summary}
use Rattle.gd_world.proofs.churning.play.Goals as goal

pub returns-in_err-replies-clause-does : goal.returns-in_err-replies-clause-does
returns-in_err-replies-clause-does g c input journal link =
    let p = err_from_is_err_and c.from_residual.result c.from_residual.ensures.1 in
    let whole = churned c.args.seed c.args.count in
    rw (p.1, p.2)
    (does_cut c.args.seed c.args.count input (g.K.Sink.seen c.args.output.now) journal link c.args.steps.now
    c.answers.new.steps
    (all_said (summary whole.world whole.counts)) c.in_err-replies.ensures)

pub returns-clause-does : goal.returns-clause-does
returns-clause-does g c input journal link =
    let whole = churned c.args.seed c.args.count in
    does_as (ap (λ (replies : List Reply). whole.work ++ all_said replies) (sym c.in_ok-replies.ensures.0))
    (does_then {v = tt}
    (does_played c.args.seed c.args.count input (g.K.Sink.seen c.args.output.now) journal link c.args.steps.now
    c.answers.new.steps c.in_ok-replies.ensures.1)
    (c.print_all.ensures.does input journal link c.answers.new.steps))
