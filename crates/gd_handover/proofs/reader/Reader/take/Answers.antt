use Rattle.std.proofs.Common.{arith}
use Rattle.gd_handover.proofs.ReaderLemmas.{taken-off}
use Rattle.gd_handover.proofs.reader.Reader.take.Goals as goal

pub overflow_sub-count : goal.overflow_sub-count
overflow_sub-count g c =
    let e = rw (c.new-rest.ensures, c.as_slice.ensures) at c.in_ok-piece.ensures in
    let are = rw (c.new-rest.ensures, c.as_slice.ensures) at c.are_bytes.ensures in
    let off = taken-off g.met.P.Piece.laws c.args.self.now.ahead c.parse.new.bytes c.in_ok-piece.piece are e in
    omega (arith, off.fits, c.len.ensures.value, c.len-2.ensures)

pub returns-clause-stands : goal.returns-clause-stands
returns-clause-stands g c =
    let e = rw (c.new-rest.ensures, c.as_slice.ensures) at c.in_ok-piece.ensures in
    let are = rw (c.new-rest.ensures, c.as_slice.ensures) at c.are_bytes.ensures in
    let off = taken-off g.met.P.Piece.laws c.args.self.now.ahead c.parse.new.bytes c.in_ok-piece.piece are e in
    rw (c.skip.ensures, c.len.ensures.value, c.len-2.ensures, off.left)
    (g.met.P.Piece.laws.stands c.args.self.now.ahead (c.in_ok-piece.piece, c.parse.new.bytes) are e)

pub returns-clause-read : goal.returns-clause-read
returns-clause-read g c =
    let e = rw (c.new-rest.ensures, c.as_slice.ensures) at c.in_ok-piece.ensures in
    let are = rw (c.new-rest.ensures, c.as_slice.ensures) at c.are_bytes.ensures in
    let off = taken-off g.met.P.Piece.laws c.args.self.now.ahead c.parse.new.bytes c.in_ok-piece.piece are e in
    rw (c.skip.ensures, c.len.ensures.value, c.len-2.ensures, off.left) e

pub returns-clause-near : goal.returns-clause-near
returns-clause-near g c =
    let e = rw (c.new-rest.ensures, c.as_slice.ensures) at c.in_ok-piece.ensures in
    let are = rw (c.new-rest.ensures, c.as_slice.ensures) at c.are_bytes.ensures in
    let off = taken-off g.met.P.Piece.laws c.args.self.now.ahead c.parse.new.bytes c.in_ok-piece.piece are e in
    omega (arith, off.few, c.len.ensures.value, c.len-2.ensures)
