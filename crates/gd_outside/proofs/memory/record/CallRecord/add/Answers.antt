use Rattle.std.proofs.Common.{arith, length, refl, rules}
use Rattle.gd_outside.specs.declared.memory.mark.Mark.{Mark}
use Rattle.gd_outside.proofs.RecordLemmas.{fits-room, marks_size-push, pieces-fit, record-push}
use Rattle.gd_outside.proofs.memory.record.CallRecord.add.Goals as goal

pub unwrap-requires : goal.unwrap-requires
unwrap-requires c =
    let s = c.self.inside in
    let fits = fits-room c.args.self.now s.marks.items s.pieces.items s.room _ c.self.view_is c.self.invariant.2
    c.requires in
    c.push.ensures.succeeds (omega (arith, fits.0, c.self.invariant.0))

pub unwrap-requires-2 : goal.unwrap-requires-2
unwrap-requires-2 c =
    let s = c.self.inside in
    let fits = fits-room c.args.self.now s.marks.items s.pieces.items s.room _ c.self.view_is c.self.invariant.2
    c.requires in
    c.extend_from_slice.ensures.succeeds (omega (arith, fits.1, c.self.invariant.1))

pub returns : goal.returns
returns c =
    let s = c.self.inside in
    record-push c.args.self.now s.marks.items _ s.pieces.items _ c.args.piece.now s.room _ c.self.view_is
    c.self.invariant.2 refl (search rules) (search rules)

pub invariant_of-self : goal.invariant_of-self
invariant_of-self c =
    let s = c.self.inside in
    let marks = c.push.new.self.items in
    let pieces = c.extend_from_slice.new.self.items in
    let mark : Mark = record { kind = c.args.kind; pos = c.args.pos; len = length c.args.piece.now } in
    let fits = fits-room c.args.self.now s.marks.items s.pieces.items s.room _ c.self.view_is c.self.invariant.2
    c.requires in (
      omega (arith, c.self.invariant.0, c.push.ensures.capacity),
      omega (arith, c.self.invariant.1, c.extend_from_slice.ensures.capacity),
      marks_size-push s.marks.items marks s.pieces.items pieces c.args.piece.now mark c.self.invariant.2 refl
          (search rules) (search rules),
      pieces-fit s.pieces.items pieces c.args.piece.now _ fits.1 (search rules),
    )
