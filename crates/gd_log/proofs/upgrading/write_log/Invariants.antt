use Rattle.std.proofs.Common.{ℕ, List, map, length}
use Rattle.gd_events.specs.Events.{Event}
use Rattle.gd_outside.specs.Seen.{SeenSource, SeenJournal, SeenLink}
use Rattle.gd_grammar.specs.Chains.{AreChains}
use Rattle.gd_grammar.specs.Drawings.{drawings}
use Rattle.gd_grammar.specs.LogBytes.{log_pieces}
use Rattle.gd_effects.specs.Effects.{Print}
use Rattle.gd_effects.specs.Outside.{outside}
use Rattle.gd_effects.specs.Done.{Along}
use Rattle.gd_log.proofs.PieceLemmas.{pieces}
use Rattle.gd_log.proofs.upgrading.write_log.Given as goal

abbrev pub invariant-records : goal.invariant-records
invariant-records g l =
    (seen : List Event) × AreChains drawings l.chains seen
    × ((input : SeenSource) (journal : SeenJournal) (link : SeenLink) (steps : ℕ)
    → Along (outside input (g.K.Sink.seen l.fn.output) journal link steps)
    (map Print (log_pieces drawings l.fn.header l.fn.events))
    (outside input (g.K.Sink.seen l.output) journal link steps) (pieces seen l.left))

abbrev pub decreases-records : goal.decreases-records
decreases-records g l = length l.left
