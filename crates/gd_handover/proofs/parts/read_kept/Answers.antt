use Rattle.std.proofs.Common.{None, refl, arith}
use Rattle.std.proofs.lemmas.Result.{err_from_is_err_and}
use Rattle.gd_snapshots.specs.SnapshotBytes.{all_kept_at, kept_at}
use Rattle.gd_snapshots.specs.Snapshots.{stamp_of}
use Rattle.gd_handover.proofs.LoopLemmas.{looping-start, looping-more, looping-stops, looping-memory, looping-end}
use Rattle.gd_handover.proofs.parts.read_kept.Goals as goal

pub each-init : goal.each-init
each-init g c = rw c.new-kept.ensures record {
  looping = looping-start (kept_at c.args.known.now) stamp_of (all_kept_at c.args.known.now c.args.count None)
      c.args.count None c.args.reader.now _ (λ bytes. refl);
  few = omega (arith, c.requires.few);
  near = omega arith;
}

pub returns-in_err-event-clause-part : goal.returns-in_err-event-clause-part
returns-in_err-event-clause-part g c =
    let p = err_from_is_err_and c.from_residual.result c.from_residual.ensures.1 in
    rw (p.1, p.2) (looping-stops c.args.count c.each.i c.each-test.true _ c.each.invariant.looping
    c.in_err-event.ensures.part)

pub returns-in_err-push-clause-part : goal.returns-in_err-push-clause-part
returns-in_err-push-clause-part g c =
    let p = err_from_is_err_and c.from_residual-in_err-push.result c.from_residual-in_err-push.ensures.1 in
    rw (p.1, p.2) (looping-memory c.args.count c.each.i c.each-test.true _ c.each.invariant.looping
    c.in_ok-event.ensures.part)

pub each-preserved : goal.each-preserved
each-preserved g c = rw (c.in_ok-push.ensures.ok, c.stamp.ensures) record {
  looping = looping-more c.args.count c.each.i c.each-test.true c.in_ok-event.event c.each.invariant.looping
      c.in_ok-event.ensures.part;
  few = omega (arith, c.in_ok-event.ensures.few);
  near = omega (arith, c.in_ok-event.ensures.near);
}

pub returns-clause-part : goal.returns-clause-part
returns-clause-part g c = looping-end c.args.count c.each.i (omega arith) c.each.invariant.looping
