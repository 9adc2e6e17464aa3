use Rattle.std.proofs.Common.{◌≡◌, map, take}
use Rattle.gd_lines.specs.declared.reply.Reply.TheVariants as reply
use Rattle.gd_world.proofs.telling.show.Given as goal

abbrev pub invariant-loop-item : goal.invariant-loop-item
invariant-loop-item l = l.replies ≡ map reply.Item (take l.item-index l.items)
