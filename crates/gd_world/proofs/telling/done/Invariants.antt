use Rattle.std.proofs.Common.{◌≡◌, map, take}
use Rattle.gd_lines.specs.declared.reply.Reply.TheVariants as reply
use Rattle.gd_world.proofs.telling.done.Given as goal

abbrev pub invariant-loop-event : goal.invariant-loop-event
invariant-loop-event l = l.replies ≡ map (λ e. reply.Done e.stamp) (take l.event-index l.events)
