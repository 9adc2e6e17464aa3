use Rattle.std.proofs.Common.{◌-◌}
use Rattle.gd_history.specs.Entries.{events_of}
use Rattle.gd_history.specs.Places.{Between}
use Rattle.gd_history.proofs.search.left_by_rows.Given as goal

abbrev pub invariant-loop-from : goal.invariant-loop-from
invariant-loop-from g l = Between l.stamp (events_of l.entries.items) l.left.low l.left.high

abbrev pub decreases-loop-from : goal.decreases-loop-from
decreases-loop-from g l = l.end - l.from
