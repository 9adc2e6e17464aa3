use Rattle.std.proofs.Common.{ℕ, ◌∷◌, map, length}
use Rattle.gd_outside.specs.Seen.{SeenSource, SeenJournal, SeenLink}
use Rattle.gd_effects.specs.Effects.{Print}
use Rattle.gd_effects.specs.Outside.{outside}
use Rattle.gd_effects.specs.Done.{Along}
use Rattle.gd_grammar.specs.Drawings.{spelling}
use Rattle.gd_grammar.specs.FieldBytes.{word_bytes}
use Rattle.gd_handover.proofs.writing.print_kept.Given as goal

abbrev pub invariant-events : goal.invariant-events
invariant-events g l =
    (input : SeenSource) (journal : SeenJournal) (link : SeenLink) (steps : ℕ)
    → Along (outside input (g.K.Sink.seen l.fn.output) journal link steps)
    (map Print (word_bytes (length l.fn.kept) ∷ map spelling l.fn.kept))
    (outside input (g.K.Sink.seen l.output) journal link steps) (map Print (map spelling l.left))

abbrev pub decreases-events : goal.decreases-events
decreases-events g l = length l.left
