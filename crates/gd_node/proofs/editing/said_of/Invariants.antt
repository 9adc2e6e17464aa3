use Rattle.std.proofs.Common.{◌≡◌, take}
use Rattle.gd_node.proofs.Hearing.{done_text}
use Rattle.gd_node.proofs.editing.said_of.Given as goal

abbrev pub invariant-loop-event : goal.invariant-loop-event
invariant-loop-event l = l.said ≡ done_text (take l.event-index l.events)
