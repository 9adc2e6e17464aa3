use Rattle.std.proofs.Common.{take}
use Rattle.std.specs.Prelude.{Ok}
use Rattle.gd_effects.specs.Prints.{Prints}
use Rattle.gd_reference.specs.Said.{all_said}
use Rattle.gd_world.proofs.churning.print_all.Given as goal

abbrev pub invariant-loop-reply : goal.invariant-loop-reply
invariant-loop-reply g l
    = Prints {T = Unit {0}} (g.K.Sink.seen l.fn.output) (all_said (take l.reply-index l.fn.replies)) (Ok tt)
    (g.K.Sink.seen l.output)
