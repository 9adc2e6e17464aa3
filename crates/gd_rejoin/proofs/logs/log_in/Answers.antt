use Rattle.std.proofs.Common.{[]}
use Rattle.std.proofs.lemmas.Result.{IfOk-weaker}
use Rattle.gd_rejoin.proofs.CallLemmas.{called_as, called_then}
use Rattle.gd_rejoin.proofs.FoundLemmas.{log-by_front}
use Rattle.gd_rejoin.proofs.logs.log_in.Goals as goal

pub returns-clause-log : goal.returns-clause-log
returns-clause-log g c =
    IfOk-weaker c.log_for.result _ _ (λ log read. log-by_front c.args.header.now c.in_ok-whole.whole.items _
    c.in_ok-whole.ensures.front log.events log.place log.chains read) c.log_for.ensures.log

-- what is found in bytes in memory is no failed call
pub returns-clause-called : goal.returns-clause-called
returns-clause-called g c =
    called_as (λ failed. absurd ((rw failed at c.log_for.ensures.fault) [] (λ short. absurd cc)))
    (called_then c.fronts.invariant.called c.in_ok-whole.ensures.called)
