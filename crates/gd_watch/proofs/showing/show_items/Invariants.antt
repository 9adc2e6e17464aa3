use Rattle.std.proofs.Common.{◌≡◌, ℕ, ◌+◌, ◌*◌, ◌^◌, ◌≤◌, List, length}
use Rattle.gd_effects.specs.Outside.{outside}
use Rattle.gd_grammar.specs.declared.sizes.TheConstants.{FRAME_BYTES}
use Rattle.gd_outside.specs.Seen.{SeenJournal, SeenLink}
use Rattle.gd_viewer.specs.Viewers.{StandsFor}
use Rattle.gd_viewing.specs.SlowViewer.{SlowViewer}
use Rattle.gd_viewing.specs.Viewing.{most_items}
use Rattle.gd_watch.proofs.SoFar.{SoFar}
use Rattle.gd_watch.proofs.showing.show_items.Given as goal

abbrev pub invariant-items : goal.invariant-items
invariant-items g l = record {
  met : (slow : SlowViewer) × StandsFor slow l.viewer;
  near : l.place + (FRAME_BYTES + 2) * l.left ≤ 2 ^ 40 + (FRAME_BYTES + 2) * most_items;
  so_far : (slow : SlowViewer) → StandsFor slow l.fn.viewer → (front : List ℕ) → length front ≡ l.fn.place
      → (journal : SeenJournal) (link : SeenLink)
      → SoFar front slow (outside (g.S.Source.seen l.fn.input) (g.K.Sink.seen l.fn.output) journal link l.fn.steps)
      l.left l.place l.ahead l.viewer (outside (g.S.Source.seen l.input) (g.K.Sink.seen l.output) journal link l.steps);
}

abbrev pub decreases-items : goal.decreases-items
decreases-items g l = l.left
