use Rattle.std.proofs.Common.{◌≡◌, drop}
use Rattle.gd_viewer.specs.Viewers.{StandsFor}
use Rattle.gd_viewing.specs.SlowViewer.{SlowViewer}
use Rattle.gd_watch.proofs.Turns.{Onward}
use Rattle.gd_watch.specs.Taking.{AreInside}
use Rattle.gd_watch.proofs.taking.take_events.Given as goal

abbrev pub invariant-loop-event : goal.invariant-loop-event
invariant-loop-event g l = record {
  onward : (slow : SlowViewer) → StandsFor slow l.fn.viewer
      → Onward slow l.fn.events (g.K.Sink.seen l.fn.output) l.fn.steps (drop l.event-index l.fn.events) l.viewer
      (g.K.Sink.seen l.output) l.steps;
  inside : AreInside l.viewer.heard.sites (drop l.event-index l.fn.events);
  sites : l.viewer.heard.sites ≡ l.fn.viewer.heard.sites;
}
