use Rattle.gd_outside.proofs.ImageLemmas.{contents-is}
use Rattle.gd_outside.proofs.memory.journal.MemoryJournal.bytes.Goals as goal

pub returns-clause-image : goal.returns-clause-image
returns-clause-image c = rw (← c.self.view_is, c.bytes.ensures) (λ told. contents-is c.self.inside.journal.calls)
