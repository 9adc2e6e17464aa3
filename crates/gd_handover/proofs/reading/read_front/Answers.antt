use Rattle.std.proofs.lemmas.Result.{err_from_is_err_and}
use Rattle.gd_handover.proofs.PartLemmas.{called-as, same-fault}
use Rattle.gd_handover.proofs.WholeLemmas.{front-read, front-stops}
use Rattle.gd_handover.specs.declared.fault.SnapshotFault.TheVariants.{Read}
use Rattle.gd_handover.proofs.reading.read_front.Goals as goal

pub returns-in_err-snapshot-clause-front : goal.returns-in_err-snapshot-clause-front
returns-in_err-snapshot-clause-front g c =
    let p = err_from_is_err_and c.from_residual.result c.from_residual.ensures.1 in
    rw (p.1, p.2) (front-stops _ (rw c.new-reader.ensures at c.in_err-snapshot.ensures.part))

pub returns-in_err-snapshot-clause-called : goal.returns-in_err-snapshot-clause-called
returns-in_err-snapshot-clause-called g c =
    let p = err_from_is_err_and c.from_residual.result c.from_residual.ensures.1 in
    rw (p.1, p.2) (called-as (λ h. same-fault _ Read h) c.in_err-snapshot.ensures.part.called)

pub returns-clause-front : goal.returns-clause-front
returns-clause-front g c
    = front-read c.in_ok-snapshot.snapshot (rw c.new-reader.ensures at c.in_ok-snapshot.ensures.part)
    c.in_ok-snapshot.ensures.few
