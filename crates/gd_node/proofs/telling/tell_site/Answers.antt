use Rattle.gd_effects.proofs.Doing.{does_exit, does_ok}
use Rattle.gd_node.proofs.Who.{both_lines, both_told, note_cut}
use Rattle.gd_node.proofs.telling.tell_site.Goals as goal

pub returns-in_err-noted-clause-prints : goal.returns-in_err-noted-clause-prints
returns-in_err-noted-clause-prints g c slow stands input journal link steps =
    does_exit _ c.from_residual.ensures.1
    (note_cut slow c.args.number (c.in_err-noted.ensures.prints slow stands) input journal link steps)

pub returns-in_err-parted-clause-prints : goal.returns-in_err-parted-clause-prints
returns-in_err-parted-clause-prints g c slow stands input journal link steps =
    does_exit _ c.from_residual-in_err-parted.ensures.1
    (both_told slow c.args.number (c.in_ok-noted.ensures.prints slow stands)
    (c.in_err-parted.ensures.prints slow stands)
    input journal link steps)

pub returns-clause-prints : goal.returns-clause-prints
returns-clause-prints g c slow stands input journal link steps =
    does_ok _
    (both_told slow c.args.number (c.in_ok-noted.ensures.prints slow stands) (c.in_ok-parted.ensures.prints slow stands)
    input journal link steps)

pub returns-clause-lines : goal.returns-clause-lines
returns-clause-lines g c slow stands =
    both_lines slow c.args.number _ _ (c.in_ok-noted.ensures.lines slow stands)
    (c.in_ok-parted.ensures.lines slow stands)
