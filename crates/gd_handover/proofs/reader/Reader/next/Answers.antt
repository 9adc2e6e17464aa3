use Rattle.std.proofs.lemmas.Result.{err_from_is_err_and}
use Rattle.gd_handover.proofs.ReaderLemmas.{waiting-start, waiting-more, waiting-few, waiting-taken}
use Rattle.gd_handover.proofs.ReaderLemmas.{waiting-memory, waiting-stops}
use Rattle.gd_handover.proofs.reader.Reader.next.Goals as goal

pub piece-init : goal.piece-init
piece-init g c = waiting-start g.P.Piece.read c.args.least c.args.self.now _ c.requires.few

pub returns-in-Ok-clause-part : goal.returns-in-Ok-clause-part
returns-in-Ok-clause-part g c
    = waiting-taken c.args.least g.P.Piece.least c.in-Ok.piece c.piece.invariant c.in-Ok.ensures.are
    c.in-Ok.ensures.stands c.in-Ok.ensures.moved

pub returns-in-Ok-clause-few : goal.returns-in-Ok-clause-few
returns-in-Ok-clause-few g c
    = waiting-few c.args.least g.P.Piece.least c.in-Ok.piece c.take.new.self.ahead c.piece.invariant
    c.in-Ok.ensures.stands

pub piece-preserved : goal.piece-preserved
piece-preserved g c =
    let on = rw c.in-Err-Field.ensures.stays at c.in_ok-read_on-in-Err-Field.ensures in
    let faulty = rw c.in-Err-Field.field-0-is at c.in-Err-Field.ensures.read in
    waiting-more g.P.Piece.read c.args.least c.in-Err-Field.fault faulty c.piece.invariant on

pub returns-in_err-read_on-in-Err-Field-clause-part : goal.returns-in_err-read_on-in-Err-Field-clause-part
returns-in_err-read_on-in-Err-Field-clause-part g c =
    let p = err_from_is_err_and c.from_residual.result c.from_residual.ensures.1 in
    let on = rw c.in-Err-Field.ensures.stays at c.in_err-read_on-in-Err-Field.ensures in
    let faulty = rw c.in-Err-Field.field-0-is at c.in-Err-Field.ensures.read in
    rw (p.1, p.2) (waiting-stops c.args.least g.P.Piece.least c.in-Err-Field.fault _ g.met.P.Piece.laws faulty
    c.piece.invariant on)

pub returns-in-Err-Memory-clause-part : goal.returns-in-Err-Memory-clause-part
returns-in-Err-Memory-clause-part g c = rw c.in-Err-Memory.ensures.stays (waiting-memory c.piece.invariant)
