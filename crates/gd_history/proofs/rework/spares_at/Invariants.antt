use Rattle.std.proofs.Common.{take}
use Rattle.gd_history.specs.Entries.{events_of}
use Rattle.gd_history.specs.Reworks.{AreSpares}
use Rattle.gd_history.proofs.rework.spares_at.Given as goal

abbrev pub invariant-loop-at : goal.invariant-loop-at
invariant-loop-at g l =
    AreSpares g.D.Document.is_spare (events_of l.entries.items) (take l.at-index l.places) l.spares.items
