use Rattle.std.proofs.Common.{sym, ◌∙◌}
use Rattle.gd_effects.proofs.Doing.{does_exit, does_ok}
use Rattle.gd_node.proofs.Who.{no_parting_line, no_parting_told, parting_line, parting_told}
use Rattle.gd_node.proofs.telling.tell_parting.Goals as goal

pub returns-in_default-clause-prints : goal.returns-in_default-clause-prints
returns-in_default-clause-prints g c slow stands =
    no_parting_told slow c.args.number _ (sym c.in_default.is ∙ c.parted.ensures slow stands)

pub returns-in_default-clause-lines : goal.returns-in_default-clause-lines
returns-in_default-clause-lines g c slow stands =
    no_parting_line slow c.args.number (sym c.in_default.is ∙ c.parted.ensures slow stands)

pub returns-in_err-say-clause-prints : goal.returns-in_err-say-clause-prints
returns-in_err-say-clause-prints g c slow stands input journal link steps =
    does_exit _ c.from_residual.ensures.1
    (parting_told slow c.args.number c.in-Some.count (sym c.in-Some.is ∙ c.parted.ensures slow stands)
    c.in_err-say.ensures
    input journal link steps)

pub returns-clause-prints : goal.returns-clause-prints
returns-clause-prints g c slow stands input journal link steps =
    does_ok _
    (parting_told slow c.args.number c.in-Some.count (sym c.in-Some.is ∙ c.parted.ensures slow stands)
    c.in_ok-say.ensures
    input journal link steps)

pub returns-clause-lines : goal.returns-clause-lines
returns-clause-lines g c slow stands =
    parting_line slow c.args.number c.in-Some.count (sym c.in-Some.is ∙ c.parted.ensures slow stands)
