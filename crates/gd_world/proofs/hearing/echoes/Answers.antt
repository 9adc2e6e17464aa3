use Rattle.std.proofs.Common.{ap, ◌∙◌}
use Rattle.std.proofs.lemmas.List.{length_push}
use Rattle.std.proofs.lemmas.Slice.Zip.{zip_end, zip_turn}
use Rattle.std.specs.Iterator.Adapters.{zip_first, zip_second}
use Rattle.std.specs.Slice.Iter.{iter_rest}
use Rattle.gd_world.proofs.Echoed.{said_all, said_more, said_none}
use Rattle.gd_world.proofs.hearing.echoes.Goals as goal

pub loop-event-init : goal.loop-event-init
loop-event-init c = said_none c.args.events.now c.args.heard.now c.new-replies.result c.new-replies.ensures

pub loop-event-preserved : goal.loop-event-preserved
loop-event-preserved c =
    let gives = c.into_iter-event-iterator.ensures.into_iter_gives in
    let zipped = c.zip-event-items.ensures in
    let event = c.in-Some.event in
    let arrived = c.in-Some.arrived in
    let t = zip_turn c.args.events.now c.args.heard.now c.loop-event.yielded c.into_iter-event-iterator.result
    c.loop-event.event-iterator c.next.new.self c.next.result
    (ap (λ z. iter_rest (zip_first z)) gives ∙ ap iter_rest zipped.first ∙ c.iter.ensures.rest)
    (ap (λ z. iter_rest (zip_second z)) gives ∙ zipped.second.0) c.loop-event.yielded_by (event, arrived) c.in-Some.is
    c.next.ensures.steps in
    rw (length_push c.loop-event.yielded (event, arrived))
    (said_more c.args.events.now c.args.heard.now _ c.loop-event.replies c.loop-event.invariant event.now arrived.now
    t.0 t.1 (t.2 event.now) (t.3 arrived.now) _
    c.in_ok-push_echo.ensures)

pub returns-clause-ok : goal.returns-clause-ok
returns-clause-ok c =
    let gives = c.into_iter-event-iterator.ensures.into_iter_gives in
    let zipped = c.zip-event-items.ensures in
    let all = zip_end c.args.events.now c.args.heard.now c.loop-event.yielded c.into_iter-event-iterator.result
    c.loop-event.event-iterator c.next.new.self c.next.result
    (ap (λ z. iter_rest (zip_first z)) gives ∙ ap iter_rest zipped.first ∙ c.iter.ensures.rest)
    (ap (λ z. iter_rest (zip_second z)) gives ∙ zipped.second.0) c.loop-event.yielded_by c.in-None.is
    c.next.ensures.steps in
    said_all c.args.events.now c.args.heard.now _ c.loop-event.replies c.loop-event.invariant all
