use Rattle.std.proofs.Common.{◌≡◌, ◌+◌, ◌-◌, ◌≤◌, length, drop}
use Rattle.gd_history.specs.Entries.{events_of}
use Rattle.gd_history.specs.Orders.{leading}
use Rattle.gd_history.proofs.search.count_front.Given as goal

abbrev pub invariant-loop-count : goal.invariant-loop-count
invariant-loop-count g l = record {
  within : l.count ≤ length l.run;
  rest : leading l.line (events_of l.run)
      ≡ l.count + leading l.line (drop l.count (events_of l.run));
}

abbrev pub decreases-loop-count : goal.decreases-loop-count
decreases-loop-count g l = length l.run - l.count
