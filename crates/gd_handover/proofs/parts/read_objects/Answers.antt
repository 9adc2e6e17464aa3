use Rattle.std.proofs.Common.{◌∷◌, [], None, refl, arith}
use Rattle.std.proofs.lemmas.List.{length-append}
use Rattle.std.proofs.lemmas.Result.{err_from_is_err_and}
use Rattle.gd_snapshots.specs.SnapshotBytes.{objects_at, placed_at}
use Rattle.gd_snapshots.specs.Snapshots.{id_of}
use Rattle.gd_handover.proofs.LoopLemmas.{looping-start, looping-more, looping-stops, looping-memory, looping-end}
use Rattle.gd_handover.proofs.parts.read_objects.Goals as goal

pub each-init : goal.each-init
each-init g c = rw c.new-objects.ensures record {
  looping = looping-start placed_at id_of (objects_at c.args.count None) c.args.count None c.args.reader.now _
      (λ bytes. refl);
  few = omega (arith, c.requires.few);
  near = omega arith;
  long = refl;
}

pub returns-in_err-id-clause-part : goal.returns-in_err-id-clause-part
returns-in_err-id-clause-part g c =
    let p = err_from_is_err_and c.from_residual.result c.from_residual.ensures.1 in
    rw (p.1, p.2) (looping-stops c.args.count c.each.i c.each-test.true _ c.each.invariant.looping
    c.in_err-id.ensures.part)

pub returns-in_err-push-clause-part : goal.returns-in_err-push-clause-part
returns-in_err-push-clause-part g c =
    let p = err_from_is_err_and c.from_residual-in_err-push.result c.from_residual-in_err-push.ensures.1 in
    rw (p.1, p.2) (looping-memory c.args.count c.each.i c.each-test.true _ c.each.invariant.looping
    c.in_ok-id.ensures.part)

pub each-preserved : goal.each-preserved
each-preserved g c = rw c.in_ok-push.ensures.ok record {
  looping = looping-more c.args.count c.each.i c.each-test.true (c.in_ok-id.id, c.in_ok-id.object)
      c.each.invariant.looping c.in_ok-id.ensures.part;
  few = omega (arith, c.in_ok-id.ensures.few);
  near = omega (arith, c.in_ok-id.ensures.near);
  long = omega (arith, length-append c.each.objects ((c.in_ok-id.id, c.in_ok-id.object) ∷ []));
}

pub returns-clause-part : goal.returns-clause-part
returns-clause-part g c = looping-end c.args.count c.each.i (omega arith) c.each.invariant.looping
