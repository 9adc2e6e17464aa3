use Rattle.std.proofs.Common.{rules}
use Rattle.gd_outside.proofs.RecordLemmas.{fits-few, fits-full}
use Rattle.gd_outside.proofs.memory.record.CallRecord.fits.Goals as goal

pub returns-then-len-self : goal.returns-then-len-self
returns-then-len-self c =
    let s = c.self.inside in
    fits-few c.args.self.now s.marks.items s.pieces.items s.room c.args.len _ _ c.self.view_is c.self.invariant.2
    c.self.invariant.3 (search rules) c.if-len-self.true (search rules)

pub returns-else-len-self : goal.returns-else-len-self
returns-else-len-self c =
    let s = c.self.inside in
    fits-full c.args.self.now s.marks.items s.pieces.items s.room c.args.len _ c.self.view_is c.self.invariant.2
    (search rules) c.if-len-self.false
