use Rattle.std.proofs.lemmas.Result.{err_from_is_err_and}
use Rattle.gd_wire.proofs.FrameLemmas.{next-stops}
use Rattle.gd_wire.proofs.bytes.Bytes.next_event.Goals as goal

pub returns-in_err-event : goal.returns-in_err-event
returns-in_err-event c =
    let p = err_from_is_err_and c.from_residual.result c.from_residual.ensures.1 in
    let error = c.in_err-event.field-0.0 in
    rw (p.1, p.2) (next-stops c.args.head.now c.args.last _ c.event.new.self error c.in_err-event.ensures)
