use Rattle.std.proofs.Common.{◌∙◌, refl}
use Rattle.gd_arrivals.specs.Arrivals.{costs}
use Rattle.gd_arriving.proofs.ArrivalLemmas.{arriving_start, arriving_above, arriving_fresh, arriving_few}
use Rattle.gd_arriving.proofs.ArrivalLemmas.{arriving_room, arriving_next, arriving_paid, paid_if}
use Rattle.gd_arriving.proofs.arriving.arrived_from.Goals as goal

pub arrive-requires-clause-fresh : goal.arrive-requires-clause-fresh
arrive-requires-clause-fresh g c =
    arriving_fresh g.D.Document.rules g.D.Document.meaning _ _ c.args.events _ _ (rw c.in-Some.is at c.next.ensures)
    c.arrivals.invariant c.requires.distinct c.requires.above
    c.into_parts-stamp.ensures.stamp (c.in_ok-event.ensures ∙ c.into_parts-stamp.ensures.op)
    c.into_parts-stamp.ensures.sound

pub arrive-requires-clause-above : goal.arrive-requires-clause-above
arrive-requires-clause-above g c =
    arriving_above g.D.Document.rules g.D.Document.meaning _ _ c.args.events _ _ (rw c.in-Some.is at c.next.ensures)
    c.arrivals.invariant c.requires.distinct c.requires.above
    c.into_parts-stamp.ensures.stamp (c.in_ok-event.ensures ∙ c.into_parts-stamp.ensures.op)
    c.into_parts-stamp.ensures.sound

pub returns-in_err-event-clause-err : goal.returns-in_err-event-clause-err
returns-in_err-event-clause-err g c =
    let d = g.D.Document.rules in
    paid_if c.from_residual.result (costs d.independent d.covers c.args.events) c.args.steps.now c.arrivals.steps
    (arriving_paid d g.D.Document.meaning _ _ c.args.events _ _ _ _ c.arrivals.left c.arrivals.invariant)

pub returns-in_err-arrival-clause-err : goal.returns-in_err-arrival-clause-err
returns-in_err-arrival-clause-err g c =
    let d = g.D.Document.rules in
    paid_if c.from_residual-in_err-arrival.result (costs d.independent d.covers c.args.events) c.args.steps.now
    c.arrive.new.steps
    (rw c.in_err-arrival.ensures.err_steps
    (arriving_paid d g.D.Document.meaning _ _ c.args.events _ _ _ _ c.arrivals.left c.arrivals.invariant))

pub count-requires-clause-few : goal.count-requires-clause-few
count-requires-clause-few g c =
    arriving_few g.D.Document.rules g.D.Document.meaning _ _ c.args.events _ _ (rw c.in-Some.is at c.next.ensures)
    c.arrivals.invariant c.requires.distinct c.requires.above
    c.into_parts-stamp.ensures.stamp (c.in_ok-event.ensures ∙ c.into_parts-stamp.ensures.op)
    c.into_parts-stamp.ensures.sound
    c.in_ok-arrival.ensures.outcome c.requires.few

pub count-requires-clause-room : goal.count-requires-clause-room
count-requires-clause-room g c =
    arriving_room g.D.Document.rules g.D.Document.meaning _ _ c.args.events _ _ (rw c.in-Some.is at c.next.ensures)
    c.arrivals.invariant c.requires.distinct c.requires.above
    c.into_parts-stamp.ensures.stamp (c.in_ok-event.ensures ∙ c.into_parts-stamp.ensures.op)
    c.into_parts-stamp.ensures.sound
    c.in_ok-arrival.ensures.outcome c.requires.few

pub arrivals-init : goal.arrivals-init
arrivals-init g c =
    rw (c.from_base-history.ensures, c.into_events-left.ensures)
    (arriving_start g.D.Document.rules g.D.Document.meaning _ _ c.args.events _ _ _ _ refl refl refl c.new-tally.ensures
    refl)

pub arrivals-preserved : goal.arrivals-preserved
arrivals-preserved g c =
    arriving_next g.D.Document.rules g.D.Document.meaning _ _ c.args.events _ _ (rw c.in-Some.is at c.next.ensures)
    c.arrivals.invariant c.requires.distinct c.requires.above
    c.into_parts-stamp.ensures.stamp (c.in_ok-event.ensures ∙ c.into_parts-stamp.ensures.op)
    c.into_parts-stamp.ensures.sound
    c.in_ok-arrival.ensures.outcome c.requires.few g.met.D.Document.laws c.in_ok-arrival.ensures.entries
    c.in_ok-arrival.ensures.document
    c.in_ok-arrival.ensures.line c.in_ok-arrival.ensures.steps c.count.ensures

pub arrivals-preserved-in_ok-arrival : goal.arrivals-preserved-in_ok-arrival
arrivals-preserved-in_ok-arrival g c =
    arriving_next g.D.Document.rules g.D.Document.meaning _ _ c.args.events _ _ (rw c.in-Some.is at c.next.ensures)
    c.arrivals.invariant c.requires.distinct c.requires.above
    c.into_parts-stamp.ensures.stamp (c.in_ok-event.ensures ∙ c.into_parts-stamp.ensures.op)
    c.into_parts-stamp.ensures.sound
    c.in_ok-arrival.ensures.outcome c.requires.few g.met.D.Document.laws c.in_ok-arrival.ensures.entries
    c.in_ok-arrival.ensures.document
    c.in_ok-arrival.ensures.line c.in_ok-arrival.ensures.steps c.count.ensures
