use Rattle.std.proofs.Common.{◌≡◌, ◌++◌}
use Rattle.std.specs.List.{flat_map}
use Rattle.std.specs.Prelude.{replicate}
use Rattle.gd_base.specs.declared.refusal.Refusal.TheVariants.{GestureFull}
use Rattle.gd_lines.specs.Replies.{reply_text}
use Rattle.gd_lines.specs.declared.reply.Reply.TheVariants as reply
use Rattle.gd_node.proofs.gesturing.refuse_others.Given as goal

abbrev pub invariant-others : goal.invariant-others
invariant-others l =
    l.said ++ flat_map reply_text (replicate l.left (reply.Refused GestureFull))
    ≡ l.fn.said ++ flat_map reply_text (replicate l.fn.count (reply.Refused GestureFull))

abbrev pub decreases-others : goal.decreases-others
decreases-others l = l.left
