use Rattle.gd_rows.proofs.BlankScripts.{ends_done, ends_over, limit_said, nothing_done}
use Rattle.gd_rows.proofs.rehearsal_rows.a_hundred_thousand_lines.Goals as goal
use Rattle.gd_worlds.specs.Rehearsal.{rehearsal_lines}

pub returns-clause-heard : goal.returns-clause-heard
unfolding rehearsal_lines
returns-clause-heard c = nothing_done 100000

pub returns-clause-done : goal.returns-clause-done
unfolding rehearsal_lines
returns-clause-done c = ends_done 100000

pub returns-clause-more : goal.returns-clause-more
unfolding rehearsal_lines
returns-clause-more c = limit_said 100000

pub returns-clause-over : goal.returns-clause-over
unfolding rehearsal_lines
returns-clause-over c = ends_over 100000
