use Rattle.std.proofs.Common.{◌∷◌, [], refl, arith}
use Rattle.std.proofs.lemmas.List.{length-append}
use Rattle.std.proofs.lemmas.Result.{err_from_is_err_and}
use Rattle.gd_snapshots.specs.SnapshotBytes.{in_view, nothing_of, of_a_site}
use Rattle.gd_handover.proofs.LoopLemmas.{looping-start, looping-more, looping-stops, looping-end, in_view-many}
use Rattle.gd_handover.proofs.parts.read_known.Goals as goal

pub each-init : goal.each-init
each-init g c = rw c.new-known.ensures record {
  looping = looping-start (λ last bytes. in_view (of_a_site last bytes)) nothing_of _ c.args.sites tt c.args.reader.now
      _ (λ bytes. in_view-many of_a_site nothing_of c.args.sites tt bytes);
  few = omega (arith, c.requires.few);
  near = omega arith;
  long = refl;
}

pub returns-in_err-of-clause-part : goal.returns-in_err-of-clause-part
returns-in_err-of-clause-part g c =
    let p = err_from_is_err_and c.from_residual.result c.from_residual.ensures.1 in
    rw (p.1, p.2) (looping-stops c.args.sites c.each.i c.each-test.true _ c.each.invariant.looping
    c.in_err-of.ensures.part)

pub each-preserved : goal.each-preserved
each-preserved g c = rw c.push.ensures record {
  looping = looping-more c.args.sites c.each.i c.each-test.true c.in_ok-of.of c.each.invariant.looping
      c.in_ok-of.ensures.part;
  few = omega (arith, c.in_ok-of.ensures.few);
  near = omega (arith, c.in_ok-of.ensures.near);
  long = omega (arith, length-append c.each.known (c.in_ok-of.of ∷ []));
}

pub returns-clause-part : goal.returns-clause-part
returns-clause-part g c = looping-end c.args.sites c.each.i (omega arith) c.each.invariant.looping
