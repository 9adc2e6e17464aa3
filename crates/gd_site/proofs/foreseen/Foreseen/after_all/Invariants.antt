use Rattle.std.proofs.Common.{◌≡◌, drop}
use Rattle.gd_site.specs.Foreseen.{foreseen}
use Rattle.gd_site.proofs.foreseen.Foreseen.after_all.Given as goal

abbrev pub invariant-offers : goal.invariant-offers
invariant-offers l = foreseen l.so (drop l.event-index l.fn.events) ≡ foreseen l.fn.self l.fn.events
