use Rattle.std.proofs.Common.{ap, subst}
use Rattle.std.specs.Prelude.{Err}
use Rattle.gd_handover.specs.Reading.{FrontIs}
use Rattle.gd_handover.specs.declared.fault.SnapshotFault.{SnapshotFault}
use Rattle.gd_watch.proofs.ViewEnds.{runs_behind, runs_misread, runs_out, runs_unread}
use Rattle.gd_watch.proofs.viewing.run.Goals as goal

pub returns-in-Ok-clause-runs : goal.returns-in-Ok-clause-runs
returns-in-Ok-clause-runs g c journal link =
    let front = c.in-Ok.ensures.front in
    runs_behind c.in-Ok.ensures.called (g.K.Sink.seen c.args.output.now) journal link c.args.steps.now _ front
    (c.open.ensures.runs front.taken front.long journal link)

pub returns-in-Err-Read-clause-runs : goal.returns-in-Err-Read-clause-runs
returns-in-Err-Read-clause-runs g c journal link =
    let old = (g.S.Source.seen c.args.input.now).left in
    let new = (g.S.Source.seen c.read_front.new.source).left in
    let is = c.in-Err-Read.field-0-is in
    runs_unread c.in-Err-Read.ensures.called (g.K.Sink.seen c.args.output.now) journal link c.args.steps.now (ap Err is)
    (subst (λ (e : SnapshotFault). FrontIs (Err e) old new) is c.in-Err-Read.ensures.front) _ _

pub returns-in-Err-NoMemory-clause-runs : goal.returns-in-Err-NoMemory-clause-runs
returns-in-Err-NoMemory-clause-runs g c journal link
    = runs_out c.in-Err-NoMemory.ensures.called (g.K.Sink.seen c.args.output.now) journal link c.args.steps.now _ _

pub returns-in-Err-Bad-clause-runs : goal.returns-in-Err-Bad-clause-runs
returns-in-Err-Bad-clause-runs g c journal link =
    let old = (g.S.Source.seen c.args.input.now).left in
    let new = (g.S.Source.seen c.read_front.new.source).left in
    let front = subst (λ (e : SnapshotFault). FrontIs (Err e) old new) c.in-Err-Bad.field-0-is
    c.in-Err-Bad.ensures.front in
    runs_misread c.in-Err-Bad.ensures.called (g.K.Sink.seen c.args.output.now) journal link c.args.steps.now
    c.in-Err-Bad.at c.in-Err-Bad.why _ front
    (rw (c.in-Err-Bad.at-is, c.in-Err-Bad.why-is) at c.end_with.ensures.does) c.end_with.ensures.end
