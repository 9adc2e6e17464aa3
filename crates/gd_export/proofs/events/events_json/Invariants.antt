use Rattle.std.proofs.Common.{map, take}
use Rattle.gd_json.specs.EventsJson.{event_json}
use Rattle.gd_export.specs.Begun.{IsBegun}
use Rattle.gd_export.proofs.events.events_json.Given as goal

abbrev pub invariant-loop-event : goal.invariant-loop-event
invariant-loop-event l = IsBegun l.array (map event_json (take l.event-index l.event-items))
