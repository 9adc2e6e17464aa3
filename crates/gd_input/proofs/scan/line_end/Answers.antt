use Rattle.gd_input.proofs.CutLemmas.{finds_line_end}
use Rattle.gd_input.proofs.scan.line_end.Goals as goal

pub returns-in_err-memchr : goal.returns-in_err-memchr
returns-in_err-memchr c
    = rw c.from_residual.ensures
    (rw c.in_err-memchr.was at (finds_line_end _ _ c.memchr.result c.requires.within c.requires.no_lf c.memchr.ensures))

pub returns : goal.returns
returns c = rw c.in_ok-memchr.was at
    (finds_line_end _ _ c.memchr.result c.requires.within c.requires.no_lf c.memchr.ensures)
