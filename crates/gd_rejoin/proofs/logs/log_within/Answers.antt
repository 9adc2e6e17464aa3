use Rattle.std.proofs.Common.{◌≡◌, ◌∙◌, sym, false}
use Rattle.std.proofs.lemmas.Result.{err_from_is_err_and}
use Rattle.gd_rejoin.specs.Faults.{is_short}
use Rattle.gd_rejoin.proofs.FoundLemmas.{fault-by_front, log-by_front}
use Rattle.gd_rejoin.proofs.logs.log_within.Goals as goal

pub returns-in_err-found-clause-fault : goal.returns-in_err-found-clause-fault
returns-in_err-found-clause-fault g c =
    let p = err_from_is_err_and c.from_residual-in_err-found.result c.from_residual-in_err-found.ensures.1 in
    let fails = rw c.in_err-found.was at c.log_for-found.ensures.fault in
    let shows = rw c.in_err-found.was at c.is_cut.ensures in
    let whole : is_short c.in_err-found.field-0.0 ≡ false = sym shows ∙ c.if-is_cut.false in
    rw (p.1, p.2) (fault-by_front c.args.header.now c.in_ok-front.front.items
    (g.J.Journal.seen c.front_of.new.journal).contents c.in_ok-front.ensures.front
    c.in_err-found.field-0.0 fails (λ is_told short. absurd (let no = sym whole ∙ short in cc)))

pub returns-clause-log : goal.returns-clause-log
returns-clause-log g c =
    log-by_front c.args.header.now c.in_ok-front.front.items (g.J.Journal.seen c.front_of.new.journal).contents
    c.in_ok-front.ensures.front
    c.in_ok-found.field-0.events c.in_ok-found.field-0.place c.in_ok-found.field-0.chains
    (rw c.in_ok-found.was at c.log_for-found.ensures.log)
