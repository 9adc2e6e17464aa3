use Rattle.std.proofs.Common.{sym}
use Rattle.std.proofs.lemmas.Result.{err_from_is_err_and}
use Rattle.gd_handover.proofs.JudgedLemmas.{placed-stops, placed-low, placed-faulty, placed-read}
use Rattle.gd_handover.proofs.parts.read_placed.Goals as goal

pub returns-in_err-id-clause-part : goal.returns-in_err-id-clause-part
returns-in_err-id-clause-part g c =
    let p = err_from_is_err_and c.from_residual.result c.from_residual.ensures.1 in
    rw (p.1, p.2) (placed-stops c.args.last _ c.in_err-id.ensures.part)

pub returns-then-not-is_above-clause-part : goal.returns-then-not-is_above-clause-part
returns-then-not-is_above-clause-part g c
    = placed-low c.args.last c.in_ok-id.id (sym c.if-not-is_above.ensures) c.in_ok-id.ensures.part

pub returns-in_err-object-clause-part : goal.returns-in_err-object-clause-part
returns-in_err-object-clause-part g c =
    let p = err_from_is_err_and c.from_residual-in_err-object.result c.from_residual-in_err-object.ensures.1 in
    rw (p.1, p.2) (placed-faulty c.args.last c.in_ok-id.id _ (sym c.if-not-is_above.ensures) c.in_ok-id.ensures.part
    c.in_err-object.ensures.part)

pub returns-clause-part : goal.returns-clause-part
returns-clause-part g c =
    let above = sym c.if-not-is_above.ensures in
    let object = c.in_ok-object.ensures.part in
    placed-read c.args.last c.in_ok-id.id c.in_ok-object.object above c.in_ok-id.ensures.part object
