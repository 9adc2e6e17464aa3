use Rattle.gd_watch.proofs.ViewEnds.{runs_opened, runs_unopened}
use Rattle.gd_watch.proofs.viewing.open.Goals as goal

pub returns-in_err-viewer-clause-runs : goal.returns-in_err-viewer-clause-runs
returns-in_err-viewer-clause-runs g c front long journal link =
    runs_unopened (g.S.Source.seen c.args.input.now) (g.K.Sink.seen c.args.output.now) journal link _ _ _ _ _
    c.from_residual.ensures.1 c.in_err-viewer.ensures.err_steps

pub returns-clause-runs : goal.returns-clause-runs
returns-clause-runs g c front long journal link =
    runs_opened (g.S.Source.seen c.args.input.now) (g.K.Sink.seen c.args.output.now) journal link _
    c.in_ok-viewer.ensures.steps
    (c.show_items.ensures.runs _ c.in_ok-viewer.ensures.stands front long journal link)
