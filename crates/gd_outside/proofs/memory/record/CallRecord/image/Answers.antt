use Rattle.gd_outside.proofs.ImageLemmas.{image-fits}
use Rattle.gd_outside.proofs.memory.record.CallRecord.image.Goals as goal

pub returns-in_err-take-clause-short : goal.returns-in_err-take-clause-short
returns-in_err-take-clause-short c =
    let s = c.self.inside in
    image-fits c.args.self.now s.marks.items s.pieces.items s.room c.args.k c.args.fill c.self.view_is
    c.self.invariant.2 c.self.invariant.3

pub returns-clause-short : goal.returns-clause-short
returns-clause-short c =
    let s = c.self.inside in
    image-fits c.args.self.now s.marks.items s.pieces.items s.room c.args.k c.args.fill c.self.view_is
    c.self.invariant.2 c.self.invariant.3
