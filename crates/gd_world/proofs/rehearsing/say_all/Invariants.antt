use Rattle.std.proofs.Common.{ℕ}
use Rattle.gd_effects.specs.Done.{Along}
use Rattle.gd_effects.specs.Outside.{outside}
use Rattle.gd_outside.specs.Seen.{SeenSource, SeenJournal, SeenLink}
use Rattle.gd_reference.specs.Said.{all_said}
use Rattle.gd_world.proofs.InTurn.{said_from}
use Rattle.gd_world.proofs.rehearsing.say_all.Given as goal

abbrev pub invariant-loop-reply : goal.invariant-loop-reply
invariant-loop-reply g l =
    (input : SeenSource) (journal : SeenJournal) (link : SeenLink) (steps : ℕ)
    → Along (outside input (g.K.Sink.seen l.fn.output) journal link steps) (all_said l.fn.replies)
    (outside input (g.K.Sink.seen l.output) journal link steps) (said_from l.reply-index l.fn.replies)
