use Rattle.std.proofs.Common.{ap, ◌∙◌}
use Rattle.std.proofs.lemmas.List.{length_push}
use Rattle.std.proofs.lemmas.Slice.Zip.{zip_end, zip_turn}
use Rattle.std.specs.Iterator.Adapters.{zip_first, zip_second}
use Rattle.std.specs.Slice.Iter.{iter_rest}
use Rattle.gd_node.proofs.Hearing.{heard_all, heard_more, heard_none}
use Rattle.gd_node.proofs.arriving.hear_all.Goals as goal

pub events-init : goal.events-init
events-init c = heard_none c.args.events.now c.args.heard.now _ _

pub events-preserved : goal.events-preserved
events-preserved c =
    let gives = c.into_iter-event-iterator.ensures.into_iter_gives in
    let zipped = c.zip-event-items.ensures in
    let event = c.in-Some.event in
    let arrived = c.in-Some.arrived in
    let t = zip_turn c.args.events.now c.args.heard.now c.events.yielded c.into_iter-event-iterator.result
    c.events.event-iterator c.next.new.self c.next.result
    (ap (λ z. iter_rest (zip_first z)) gives ∙ ap iter_rest zipped.first ∙ c.iter.ensures.rest)
    (ap (λ z. iter_rest (zip_second z)) gives ∙ zipped.second.0) c.events.yielded_by (event, arrived) c.in-Some.is
    c.next.ensures.steps in
    rw (length_push c.events.yielded (event, arrived))
    (heard_more c.args.events.now c.args.heard.now c.events.invariant event.now arrived.now t.0 t.1 (t.2 event.now)
    (t.3 arrived.now)
    (rw c.is_taken.ensures at c.in_ok-add_record.ensures)
    c.in_ok-add_arrived.ensures)

pub returns-clause-records : goal.returns-clause-records
returns-clause-records c =
    let gives = c.into_iter-event-iterator.ensures.into_iter_gives in
    let zipped = c.zip-event-items.ensures in
    let all = zip_end c.args.events.now c.args.heard.now c.events.yielded c.into_iter-event-iterator.result
    c.events.event-iterator c.next.new.self c.next.result
    (ap (λ z. iter_rest (zip_first z)) gives ∙ ap iter_rest zipped.first ∙ c.iter.ensures.rest)
    (ap (λ z. iter_rest (zip_second z)) gives ∙ zipped.second.0) c.events.yielded_by c.in-None.is c.next.ensures.steps
    in
    (heard_all c.args.events.now c.args.heard.now c.events.invariant all).0

pub returns-clause-said : goal.returns-clause-said
returns-clause-said c =
    let gives = c.into_iter-event-iterator.ensures.into_iter_gives in
    let zipped = c.zip-event-items.ensures in
    let all = zip_end c.args.events.now c.args.heard.now c.events.yielded c.into_iter-event-iterator.result
    c.events.event-iterator c.next.new.self c.next.result
    (ap (λ z. iter_rest (zip_first z)) gives ∙ ap iter_rest zipped.first ∙ c.iter.ensures.rest)
    (ap (λ z. iter_rest (zip_second z)) gives ∙ zipped.second.0) c.events.yielded_by c.in-None.is c.next.ensures.steps
    in
    (heard_all c.args.events.now c.args.heard.now c.events.invariant all).1
