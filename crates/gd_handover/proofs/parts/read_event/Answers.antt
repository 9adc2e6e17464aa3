use Rattle.std.proofs.Common.{sym}
use Rattle.std.proofs.lemmas.Result.{err_from_is_err_and}
use Rattle.gd_handover.proofs.JudgedLemmas.{kept-stops, kept-refused, kept-read}
use Rattle.gd_handover.proofs.parts.read_event.Goals as goal

pub returns-in_err-event-clause-part : goal.returns-in_err-event-clause-part
returns-in_err-event-clause-part g c =
    let p = err_from_is_err_and c.from_residual.result c.from_residual.ensures.1 in
    rw (p.1, p.2) (kept-stops c.args.known.now c.args.last _ c.in_err-event.ensures.part)

pub returns-in-Some-clause-part : goal.returns-in-Some-clause-part
returns-in-Some-clause-part g c
    = kept-refused c.args.known.now c.args.last c.in_ok-event.event c.in-Some.why (sym c.in-Some.ensures)
    c.in_ok-event.ensures.part

pub returns-in-None-clause-part : goal.returns-in-None-clause-part
returns-in-None-clause-part g c
    = kept-read c.args.known.now c.args.last c.in_ok-event.event (sym c.in-None.ensures) c.in_ok-event.ensures.part
