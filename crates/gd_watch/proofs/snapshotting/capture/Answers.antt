use Rattle.std.proofs.lemmas.Result.{err_from_is_err_and}
use Rattle.gd_watch.proofs.SnapshotLemmas.{ruled-newest, ok_all, err_arrivals, err_undone}
use Rattle.gd_watch.proofs.snapshotting.capture.Goals as goal

pub from_log-requires-clause-rules : goal.from_log-requires-clause-rules
from_log-requires-clause-rules g c
    = rw (c.site.ensures.value, c.n.ensures.value, c.session.ensures)
    (ruled-newest c.args.header.now c.args.events.now c.requires.ruled)

pub returns-in_err-site-clause-err_steps : goal.returns-in_err-site-clause-err_steps
returns-in_err-site-clause-err_steps g c =
    let p = err_from_is_err_and c.from_residual.result c.from_residual.ensures.1 in
    let e = c.in_err-site.ensures.err_steps in
    rw p.1 (err_arrivals c.args.header.now c.args.events.now c.args.steps.now c.from_log.new.steps e.0 e.1 e.2 e.3)

pub returns-clause-steps : goal.returns-clause-steps
returns-clause-steps g c =
    let stands = rw (c.site.ensures.value, c.n.ensures.value, c.session.ensures) at c.in_ok-site.ensures.stands in
    ok_all c.args.header.now c.args.events.now c.args.steps.now c.from_log.new.steps c.snapshot_of.new.steps
    c.snapshot_of.result c.in_ok-site.ensures.steps (c.snapshot_of.ensures.steps _ stands)

pub returns-clause-err_steps : goal.returns-clause-err_steps
returns-clause-err_steps g c =
    let stands = rw (c.site.ensures.value, c.n.ensures.value, c.session.ensures) at c.in_ok-site.ensures.stands in
    err_undone c.args.header.now c.args.events.now c.args.steps.now c.from_log.new.steps c.snapshot_of.new.steps
    c.snapshot_of.result c.in_ok-site.ensures.steps c.snapshot_of.ensures.err_rose
    (c.snapshot_of.ensures.err_steps _ stands)
