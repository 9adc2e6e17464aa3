use Rattle.gd_outside.proofs.ImageLemmas.{image-is}
use Rattle.gd_outside.proofs.memory.journal.MemoryJournal.image.Goals as goal

pub returns-in_err-image-clause-image : goal.returns-in_err-image-clause-image
returns-in_err-image-clause-image c = image-is c.args.k c.args.fill c.args.self.now.kept.calls

pub returns-clause-image : goal.returns-clause-image
returns-clause-image c = image-is c.args.k c.args.fill c.args.self.now.kept.calls
