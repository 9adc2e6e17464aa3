use Rattle.std.proofs.Common.{◌≡◌, map, take}
use Rattle.gd_json.specs.EventsJson.{member_json}
use Rattle.gd_export.proofs.events.members_of.Given as goal

abbrev pub invariant-loop-member : goal.invariant-loop-member
invariant-loop-member l = l.items ≡ map member_json (take l.member-index l.members)
