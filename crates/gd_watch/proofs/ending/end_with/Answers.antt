use Rattle.gd_effects.proofs.Doing.{does_exit, does_ok}
use Rattle.gd_watch.proofs.ending.end_with.Goals as goal

pub returns-in_err-say-clause-does : goal.returns-in_err-say-clause-does
returns-in_err-say-clause-does g c input journal link steps =
    does_exit {U = Unit {0}} _ c.from_residual.ensures.1 (c.in_err-say.ensures input journal link steps)

pub returns-clause-does : goal.returns-clause-does
returns-clause-does g c input journal link steps = does_ok c.args.status (c.in_ok-say.ensures input journal link steps)
