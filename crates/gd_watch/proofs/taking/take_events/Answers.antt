use Rattle.std.proofs.Common.{ℕ, ◌+◌, ◌∷◌, ◌∙◌, drop, drop_of_length-le, refl, subst, sym, arith}
use Rattle.gd_watch.proofs.Turns.{at_item, onward_done, onward_exit, onward_more, onward_stands, onward_start}
use Rattle.gd_watch.specs.Taking.{AreInside}
use Rattle.gd_watch.proofs.taking.take_events.Goals as goal

pub loop-event-init : goal.loop-event-init
loop-event-init g c = record {
  onward = λ slow stands. onward_start slow _ stands;
  inside = c.requires.inside;
  sites = refl;
}

pub take_event-requires-clause-met : goal.take_event-requires-clause-met
take_event-requires-clause-met g c =
    let m = c.requires.met in
    let h = c.loop-event.invariant.onward m.0 m.1 in
    (h.at, h.stands)

pub take_event-requires-clause-inside : goal.take_event-requires-clause-inside
take_event-requires-clause-inside g c =
    let is = at_item c.args.events.now c.loop-event.event-index c.event-item.result (omega arith) c.event-item.is in
    let left : AreInside c.loop-event.viewer.heard.sites
    (c.event-item.result ∷ drop (c.loop-event.event-index + 1) c.args.events.now) =
    subst (AreInside c.loop-event.viewer.heard.sites) is c.loop-event.invariant.inside in
    left.0

pub returns-in_err-take_event-clause-does : goal.returns-in_err-take_event-clause-does
returns-in_err-take_event-clause-does g c slow stands =
    let is = at_item c.args.events.now c.loop-event.event-index c.event-item.result (omega arith) c.event-item.is in
    onward_exit slow _ (c.loop-event.invariant.onward slow stands) c.event-item.result _ is _ c.from_residual.ensures.1
    c.in_err-take_event.ensures.does

pub loop-event-preserved : goal.loop-event-preserved
loop-event-preserved g c =
    let e = c.event-item.result in
    let is = at_item c.args.events.now c.loop-event.event-index e (omega arith) c.event-item.is in
    let taken = c.in_ok-take_event.ensures in
    let left : AreInside c.loop-event.viewer.heard.sites (e ∷ drop (c.loop-event.event-index + 1) c.args.events.now) =
    subst (AreInside c.loop-event.viewer.heard.sites) is c.loop-event.invariant.inside in
    record {
      onward = λ slow stands. onward_more slow _ (c.loop-event.invariant.onward slow stands) e _ is taken.does
          taken.stands;
      inside = subst (λ (n : ℕ). AreInside n (drop (c.loop-event.event-index + 1) c.args.events.now)) (sym taken.sites)
          left.1;
      sites = taken.sites ∙ c.loop-event.invariant.sites;
    }

pub returns-clause-does : goal.returns-clause-does
returns-clause-does g c slow stands =
    onward_done slow _ (c.loop-event.invariant.onward slow stands)
    (drop_of_length-le c.args.events.now (omega (arith, c.loop-event-test.false)))

pub returns-clause-stands : goal.returns-clause-stands
returns-clause-stands g c slow stands =
    onward_stands slow _ (c.loop-event.invariant.onward slow stands)
    (drop_of_length-le c.args.events.now (omega (arith, c.loop-event-test.false)))
