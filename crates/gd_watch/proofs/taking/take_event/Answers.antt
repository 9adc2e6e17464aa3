use Rattle.std.proofs.Common.{sym, ◌∙◌, ap, refl}
use Rattle.std.specs.Prelude.{Option, Err}
use Rattle.gd_answers.specs.Arriving.{arrived_reply, reply_list}
use Rattle.gd_effects.proofs.Doing.{does_as, does_exit, does_nothing, on_ok}
use Rattle.gd_effects.proofs.OneRecord.{none_done}
use Rattle.gd_outside.specs.declared.end.End.TheVariants.{NoMemory}
use Rattle.gd_viewer.specs.Viewers.{StandsFor}
use Rattle.gd_viewing.specs.SlowViewer.{SlowViewer, viewer_arrived}
use Rattle.gd_lines.specs.declared.reply.Reply.{Reply}
use Rattle.gd_reference.specs.Said.{all_said}
use Rattle.gd_watch.proofs.TakingLemmas.{event_done, has_few}
use Rattle.gd_watch.proofs.taking.take_event.Goals as goal

pub of-requires : goal.of-requires
of-requires g c =
    let m = c.requires.met in
    has_few m.0 c.args.viewer.now m.1 c.args.event.now c.in_ok-taken.taken
    (c.in_ok-taken.ensures.answer m.0 m.1)

pub returns-in_err-taken-clause-does : goal.returns-in_err-taken-clause-does
returns-in_err-taken-clause-does g c slow stands input journal link =
    does_exit {U = Unit {0}} _ c.from_residual.ensures.1
    (none_done input _ journal link _ c.in_err-taken.ensures.err_steps)

-- memory runs out behind the steps, and nothing is said
pub returns-in_err-reply-clause-does : goal.returns-in_err-reply-clause-does
returns-in_err-reply-clause-does g c slow stands input journal link =
    let e = c.args.event.now in
    let taken = c.in_ok-taken.taken in
    does_exit {U = Unit {0}} _ c.from_residual-in_err-reply.ensures.1
    (event_done {T = Unit {0}} slow e taken (Err NoMemory) (c.in_ok-taken.ensures.answer slow stands)
    (c.in_ok-taken.ensures.steps slow stands)
    (λ input journal link steps. none_done input _ journal link _ refl) input journal link)

pub returns-in-Some-clause-does : goal.returns-in-Some-clause-does
returns-in-Some-clause-does g c slow stands =
    let e = c.args.event.now in
    let taken = c.in_ok-taken.taken in
    let said = ap (λ (r : Option Reply). all_said (reply_list r))
    (ap (arrived_reply e) (sym c.of.ensures) ∙ sym (rw c.in-Some.is at c.in_ok-reply.ensures)) in
    event_done slow e taken c.say.result
    (c.in_ok-taken.ensures.answer slow stands)
    (c.in_ok-taken.ensures.steps slow stands)
    (λ input journal link steps. does_as said (c.say.ensures input journal link steps))

pub returns-in-Some-clause-stands : goal.returns-in-Some-clause-stands
returns-in-Some-clause-stands g c =
    on_ok {P = (slow : SlowViewer) → StandsFor slow c.args.viewer.now
    → StandsFor (viewer_arrived slow c.args.event.now) c.arrive.new.self} _
    c.in_ok-taken.ensures.stands

pub returns-clause-does : goal.returns-clause-does
returns-clause-does g c slow stands =
    let e = c.args.event.now in
    let taken = c.in_ok-taken.taken in
    let said = ap (λ (r : Option Reply). all_said (reply_list r))
    (ap (arrived_reply e) (sym c.of.ensures) ∙ sym (rw c.in-None.is at c.in_ok-reply.ensures)) in
    event_done slow e taken _ (c.in_ok-taken.ensures.answer slow stands)
    (c.in_ok-taken.ensures.steps slow stands)
    (λ input journal link steps. does_as said (does_nothing _))

pub returns-clause-stands : goal.returns-clause-stands
returns-clause-stands g c slow stands
    = c.in_ok-taken.ensures.stands slow stands
