use Rattle.std.proofs.Common.{ℕ, sym, subst, IsTrue}
use Rattle.gd_base.specs.Sites.{is_site}
use Rattle.gd_effects.proofs.Doing.{does_as, does_exit, on_ok}
use Rattle.gd_viewer.specs.Viewers.{StandsFor}
use Rattle.gd_viewing.specs.SlowViewer.{SlowViewer, viewer_all_arrived, viewer_taken}
use Rattle.gd_watch.proofs.TakingLemmas.{accepted_is, events_inside, refused_is, sender_inside}
use Rattle.gd_watch.specs.Taking.{AreInside}
use Rattle.gd_watch.proofs.taking.take_frame.Goals as goal

pub returns-in-Err-clause-does : goal.returns-in-Err-clause-does
returns-in-Err-clause-does g c slow stands input journal link =
    does_as (refused_is slow c.args.frame.now c.in-Err.fault (c.in-Err.ensures slow stands)).effects
    (c.say.ensures input journal link c.args.steps.now)

pub returns-in-Err-clause-stands : goal.returns-in-Err-clause-stands
returns-in-Err-clause-stands g c =
    on_ok {P = (slow : SlowViewer) → StandsFor slow c.args.viewer.now
    → StandsFor (viewer_taken slow c.args.frame.now) c.args.viewer.now} _
    (λ slow stands. subst (λ (s : SlowViewer). StandsFor s c.args.viewer.now)
    (sym (refused_is slow c.args.frame.now c.in-Err.fault (c.in-Err.ensures slow stands)).then_is) stands)

pub take_events-requires-clause-met : goal.take_events-requires-clause-met
take_events-requires-clause-met g c = c.requires

pub take_events-requires-clause-inside : goal.take_events-requires-clause-inside
take_events-requires-clause-inside g c =
    let f = c.args.frame.now in
    let m = c.requires in
    subst (AreInside c.args.viewer.now.heard.sites) (sym c.events.ensures.events)
    (events_inside _ f c.events.ensures.frame
    (sender_inside m.0 c.args.viewer.now m.1 f c.in_default.field-0 (c.in_default.ensures m.0 m.1)))

pub returns-in_err-take_events-clause-does : goal.returns-in_err-take_events-clause-does
returns-in_err-take_events-clause-does g c slow stands input journal link =
    let is = accepted_is slow c.args.frame.now c.events.result.now c.in_default.field-0 c.events.ensures.events
    (c.in_default.ensures slow stands) in
    does_exit {U = Unit {0}} _ c.from_residual.ensures.1
    (does_as is.effects (c.in_err-take_events.ensures.does slow stands input journal link))

pub beat-requires : goal.beat-requires
beat-requires g c =
    let f = c.args.frame.now in
    let m = c.requires in
    subst (λ (n : ℕ). IsTrue (is_site n f.head.from)) (sym c.in_ok-take_events.ensures.sites)
    (sender_inside m.0 c.args.viewer.now m.1 f c.in_default.field-0 (c.in_default.ensures m.0 m.1))

pub returns-clause-does : goal.returns-clause-does
returns-clause-does g c slow stands input journal link =
    let is = accepted_is slow c.args.frame.now c.events.result.now c.in_default.field-0 c.events.ensures.events
    (c.in_default.ensures slow stands) in
    does_as is.effects (c.in_ok-take_events.ensures.does slow stands input journal link)

pub returns-clause-stands : goal.returns-clause-stands
returns-clause-stands g c slow stands =
    let is = accepted_is slow c.args.frame.now c.events.result.now c.in_default.field-0 c.events.ensures.events
    (c.in_default.ensures slow stands) in
    subst (λ (s : SlowViewer). StandsFor s c.beat.new.self) (sym is.then_is)
    (c.beat.ensures.stands (viewer_all_arrived slow c.events.result.now)
    (c.in_ok-take_events.ensures.stands slow stands))
