use Rattle.std.proofs.Common.{sym, subst, arith}
use Rattle.gd_effects.proofs.RunEnds.{ends_printed}
use Rattle.gd_effects.specs.Endings.{EndsAs, no_effects}
use Rattle.gd_effects.specs.Outside.{outside}
use Rattle.gd_outside.specs.declared.status.Status.{Status}
use Rattle.gd_outside.specs.declared.status.Status.TheVariants.{Done}
use Rattle.gd_world.proofs.Played.{churn_end}
use Rattle.gd_world.specs.Rehearsing.{IsChurnEnd}
use Rattle.gd_worlds.specs.Churn.{churn_effects}
use Rattle.gd_world.proofs.churning.churn.Goals as goal

pub returns-clause-ends : goal.returns-clause-ends
returns-clause-ends g c input journal link =
    let a = outside input (g.K.Sink.seen c.args.output.now) journal link c.args.steps.now in
    let b = outside input (g.K.Sink.seen c.play-run.new.output) journal link c.play-run.new.steps in
    subst (λ (s : Status). EndsAs (Unit {0}) (churn_effects c.args.seed c.args.count) no_effects Done s a b)
    (sym c.status_of.ensures)
    (ends_printed no_effects (omega arith) (λ t. t) c.play-run.result Done tt c.play-run.ensures.does)

pub returns-clause-kinds : goal.returns-clause-kinds
returns-clause-kinds g c
    = subst IsChurnEnd (sym c.status_of.ensures) (churn_end c.play-run.result c.play-run.ensures.does)
