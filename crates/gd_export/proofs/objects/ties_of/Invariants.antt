use Rattle.std.proofs.Common.{◌≡◌, map, take}
use Rattle.gd_json.specs.EventsJson.{tie_json}
use Rattle.gd_export.proofs.objects.ties_of.Given as goal

abbrev pub invariant-loop-tie : goal.invariant-loop-tie
invariant-loop-tie l = l.items ≡ map tie_json (take l.tie-index l.ties)
