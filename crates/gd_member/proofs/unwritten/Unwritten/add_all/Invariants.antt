use Rattle.std.proofs.Common.{List, ◌++◌, take}
use Rattle.gd_events.specs.Events.{Event}
use Rattle.gd_member.specs.Unwritten.{AreUnwritten}
use Rattle.gd_member.proofs.unwritten.Unwritten.add_all.Given as goal

abbrev pub invariant-loop-event : goal.invariant-loop-event
invariant-loop-event l =
    (written others : List Event) → AreUnwritten written others l.fn.self
    → AreUnwritten written (others ++ take l.event-index l.events) l.self
