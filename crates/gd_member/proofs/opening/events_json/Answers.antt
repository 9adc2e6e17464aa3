use Rattle.std.proofs.lemmas.Result.{err_from_is_err_and}
use Rattle.gd_member.proofs.Found.{events_here, fault_here, no_memory}
use Rattle.gd_member.proofs.opening.events_json.Goals as goal

pub returns-in_err-log-clause-fault : goal.returns-in_err-log-clause-fault
returns-in_err-log-clause-fault c =
    let p = err_from_is_err_and c.from_residual.result c.from_residual.ensures.1 in
    rw (p.1, p.2) (fault_here _ _ c.header_of.ensures c.args.journal.items _ c.in_err-log.ensures.fault)

pub returns-in_err-line-clause-fault : goal.returns-in_err-line-clause-fault
returns-in_err-line-clause-fault c =
    let p = err_from_is_err_and c.from_residual-in_err-line.result c.from_residual-in_err-line.ensures.1 in
    rw p.1 (no_memory _ _ p.2)

pub returns-clause-line : goal.returns-clause-line
returns-clause-line c = (
  c.in_ok-log.log.events,
  events_here _ _ c.header_of.ensures c.args.journal.items _ _ _ c.in_ok-log.ensures.log,
  c.in_ok-line.ensures,
)
