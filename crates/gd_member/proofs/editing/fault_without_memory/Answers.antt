use Rattle.std.proofs.Common.{subst}
use Rattle.gd_judging.specs.Faults.{EditIs}
use Rattle.gd_member.proofs.Edits.{edit_unmade}
use Rattle.gd_reference.specs.Judging.{edit}
use Rattle.gd_member.proofs.editing.fault_without_memory.Goals as goal

pub returns-in-Ok : goal.returns-in-Ok
returns-in-Ok c slow stands =
    edit_unmade _ _ (subst (EditIs (edit slow c.args.edit.now)) c.in-Ok.is (c.decide.ensures.slow slow stands))

pub returns-in-Err : goal.returns-in-Err
returns-in-Err c slow stands =
    subst (EditIs (edit slow c.args.edit.now)) c.in-Err.is (c.decide.ensures.slow slow stands)
