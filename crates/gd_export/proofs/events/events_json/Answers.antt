use Rattle.std.proofs.Common.{◌∷◌, [], ◌++◌, ℕ, List, arith, map, subst, take}
use Rattle.gd_json.specs.EventsJson.{event_json}
use Rattle.gd_export.specs.Begun.{IsBegun}
use Rattle.gd_export.proofs.Begin.{begun_next}
use Rattle.gd_export.proofs.events.events_json.Goals as goal

pub loop-event-preserved : goal.loop-event-preserved
loop-event-preserved c =
    let events = c.as_slice-event-items.result.now in
    let told = map event_json (take c.loop-event.event-index events) in
    let same = c.in_ok-json.ensures in
    let put = subst (λ (t : List ℕ). IsBegun c.put.new.self (told ++ t ∷ [])) same
    (c.in_ok-put.ensures told c.loop-event.invariant) in
    begun_next event_json events c.loop-event.event-index c.event-item.result c.put.new.self put c.event-item.is
    (omega arith)
