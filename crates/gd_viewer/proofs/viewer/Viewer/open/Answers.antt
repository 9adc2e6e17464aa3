use Rattle.gd_arriving.proofs.ArrivalLemmas.{paid_none}
use Rattle.gd_model.specs.Arrivals.{costs}
use Rattle.gd_viewer.proofs.Begun.{begun_is_viewer, begun_stands, kept_above, kept_distinct, kept_few, objects_rise}
use Rattle.gd_viewer.proofs.Begun.{some_heard}
use Rattle.gd_viewer.proofs.viewer.Viewer.open.Goals as goal

pub heard_of-heard-requires : goal.heard_of-heard-requires
heard_of-heard-requires g c = rw c.known.ensures c.snapshot_holds.ensures.few

pub line_of-line-requires : goal.line_of-line-requires
line_of-line-requires g c
    = some_heard c.args.snapshot c.snapshot_holds.ensures _ (rw c.known.ensures at c.heard_of-heard.ensures)

pub canvas_of-requires : goal.canvas_of-requires
canvas_of-requires g c = rw c.into_parts-objects.ensures.objects (objects_rise c.args.snapshot c.snapshot_holds.ensures)

pub arrived_from-requires-clause-few : goal.arrived_from-requires-clause-few
arrived_from-requires-clause-few g c
    = rw c.into_parts-objects.ensures.kept (kept_few c.args.snapshot c.snapshot_holds.ensures)

pub arrived_from-requires-clause-distinct : goal.arrived_from-requires-clause-distinct
arrived_from-requires-clause-distinct g c
    = rw c.into_parts-objects.ensures.kept (kept_distinct c.args.snapshot c.snapshot_holds.ensures)

pub arrived_from-requires-clause-above : goal.arrived_from-requires-clause-above
arrived_from-requires-clause-above g c =
    rw (c.into_parts-objects.ensures.kept, c.line_of-line.ensures)
    (kept_above c.args.snapshot c.snapshot_holds.ensures _ (rw c.known.ensures at c.heard_of-heard.ensures))

pub returns-in_err-canvas-clause-err_steps : goal.returns-in_err-canvas-clause-err_steps
returns-in_err-canvas-clause-err_steps g c
    = paid_none c.from_residual.result (costs c.args.snapshot.kept) c.args.steps.now

pub invariant_of-result : goal.invariant_of-result
invariant_of-result g c =
    rw c.session-session.ensures
    (begun_is_viewer c.args.snapshot c.snapshot_holds.ensures _ (rw c.known.ensures at c.heard_of-heard.ensures)
    c.in_ok-canvas.canvas (rw c.into_parts-objects.ensures.objects at c.in_ok-canvas.ensures)
    c.in_ok-history.history
    (rw (c.into_parts-objects.ensures.kept, c.line_of-line.ensures) at c.in_ok-history.ensures.history))

pub returns-clause-stands : goal.returns-clause-stands
returns-clause-stands g c =
    rw c.session-session.ensures
    (begun_stands c.args.snapshot c.snapshot_holds.ensures _ (rw c.known.ensures at c.heard_of-heard.ensures)
    c.in_ok-canvas.canvas (rw c.into_parts-objects.ensures.objects at c.in_ok-canvas.ensures)
    c.in_ok-history.history
    (rw (c.into_parts-objects.ensures.kept, c.line_of-line.ensures) at c.in_ok-history.ensures.history))
