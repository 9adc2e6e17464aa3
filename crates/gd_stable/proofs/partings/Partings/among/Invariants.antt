use Rattle.gd_stable.proofs.Parted.{Counting}
use Rattle.gd_stable.proofs.partings.Partings.among.Given as goal

abbrev pub invariant-each : goal.invariant-each
invariant-each l = Counting l.self l.sites l.index l.count
