use Rattle.std.proofs.Common.{take}
use Rattle.gd_member.proofs.Texts.{IsDone}
use Rattle.gd_member.proofs.lines.say_done.Given as goal

abbrev pub invariant-loop-event : goal.invariant-loop-event
invariant-loop-event l = IsDone l.fn.said l.said (take l.event-index l.events)
