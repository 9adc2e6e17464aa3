use Rattle.std.proofs.Common.{ℕ, map}
use Rattle.gd_outside.specs.Seen.{SeenSource, SeenJournal, SeenLink}
use Rattle.gd_lines.specs.Text.{lines}
use Rattle.gd_effects.specs.Effects.{Print}
use Rattle.gd_effects.specs.Outside.{outside}
use Rattle.gd_effects.specs.Done.{Along}
use Rattle.gd_view.proofs.WriteLemmas.{lines_from}
use Rattle.gd_view.proofs.write.write_text.Given as goal

abbrev pub invariant-loop-item : goal.invariant-loop-item
invariant-loop-item g l =
    (input : SeenSource) (journal : SeenJournal) (link : SeenLink) (steps : ℕ)
    → Along (outside input (g.K.Sink.seen l.initial.output) journal link steps) (map Print (lines l.fn.picture))
    (outside input (g.K.Sink.seen l.output) journal link steps) (lines_from l.item-index l.fn.picture)
