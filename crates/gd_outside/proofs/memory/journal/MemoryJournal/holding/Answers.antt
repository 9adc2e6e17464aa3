use Rattle.std.proofs.Common.{arith}
use Rattle.std.proofs.lemmas.Grind.{common_steps}
use Rattle.gd_outside.proofs.HoldingLemmas.{holds-made}
use Rattle.gd_outside.proofs.memory.journal.MemoryJournal.holding.Goals as goal

pub returns-clause-fits : goal.returns-clause-fits
returns-clause-fits c =
    holds-made c.note.new.self c.args.room c.made.inside.faults c.args.name.now c.args.contents.now
    (grind (arith, common_steps))
