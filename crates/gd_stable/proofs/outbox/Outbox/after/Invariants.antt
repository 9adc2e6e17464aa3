use Rattle.std.proofs.Common.{take}
use Rattle.gd_stable.proofs.Found.{Finding}
use Rattle.gd_stable.proofs.outbox.Outbox.after.Given as goal

abbrev pub invariant-loop-place : goal.invariant-loop-place
invariant-loop-place l = Finding l.k (take l.place l.self-inside.events.items) l.found
