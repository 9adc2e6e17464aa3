use Rattle.std.proofs.Common.{ap, ◌∙◌}
use Rattle.gd_reference.specs.NodeRun.{end_after, node_lines}
use Rattle.gd_rows.proofs.BlankLines.{as_many_heard, ends_done, ends_over, one_more_heard}
use Rattle.gd_rows.proofs.input_rows.a_million_lines.Goals as goal

pub returns-clause-heard : goal.returns-clause-heard
unfolding node_lines
returns-clause-heard c = as_many_heard 1000000

pub returns-clause-more : goal.returns-clause-more
unfolding node_lines
returns-clause-more c = one_more_heard 1000000

pub returns-clause-done : goal.returns-clause-done
unfolding node_lines
returns-clause-done c = ap end_after (as_many_heard 1000000) ∙ ends_done 1000000

pub returns-clause-over : goal.returns-clause-over
unfolding node_lines
returns-clause-over c = ap end_after (one_more_heard 1000000) ∙ ends_over 1000000
