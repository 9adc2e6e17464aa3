use Rattle.std.proofs.Common.{◌-◌}
use Rattle.gd_history.specs.Entries.{events_of}
use Rattle.gd_history.specs.Places.{Between}
use Rattle.gd_history.proofs.search.place_between.Given as goal

abbrev pub invariant-loop-low : goal.invariant-loop-low
invariant-loop-low g l = Between l.stamp (events_of l.entries.items) l.low l.high

abbrev pub decreases-loop-low : goal.decreases-loop-low
decreases-loop-low g l = l.high - l.low
