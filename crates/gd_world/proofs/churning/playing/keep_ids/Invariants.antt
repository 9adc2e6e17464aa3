use Rattle.std.proofs.Common.{◌≡◌, ◌++◌, take}
use Rattle.std.specs.List.{flat_map}
use Rattle.gd_worlds.specs.Churn.{done_id}
use Rattle.gd_world.proofs.churning.playing.keep_ids.Given as goal

abbrev pub invariant-loop-reply : goal.invariant-loop-reply
invariant-loop-reply l = l.made.items ≡ l.initial.made.items ++ flat_map done_id (take l.reply-index l.replies)
