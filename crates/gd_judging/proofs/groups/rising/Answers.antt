use Rattle.std.proofs.Common.{◌≡◌, ◌<◌, ◌-◌, ◌∙◌, List, Some, suc, sym, ap, map, arith, length}
use Rattle.std.proofs.Math.Seq.{drop-length}
use Rattle.gd_base.specs.declared.member.Member.{Member}
use Rattle.gd_judging.specs.Targets.{as_member, rising}
use Rattle.gd_judging.specs.declared.groups.Named.{Named}
use Rattle.gd_judging.proofs.Rising.{rise_none, rise_at, rise_not}
use Rattle.gd_judging.proofs.groups.rising.Goals as goal

pub loop-place-init : goal.loop-place-init
loop-place-init c = record {
  sorted = ap (λ (l : List Named). rising (map as_member l)) (drop-length c.args.named.now) ∙ rise_none
      ∙ ap (λ (l : List Member). Some l) (sym c.new-sorted.ensures);
  left = omega (arith, ap (λ (l : List Member). length l) c.new-sorted.ensures);
}

pub returns-in_err-member : goal.returns-in_err-member
returns-in_err-member c =
    let inside : c.loop-place.place - 1 < length c.args.named.now
    = omega (arith, c.loop-place-test.true, c.loop-place.auto.place) in
    c.from_residual.ensures
    ∙ sym (rise_not c.args.named.now (c.loop-place.place - 1) c.index-named-place.result inside c.index-named-place.is
    (sym c.in_err-member.ensures))

pub loop-place-preserved : goal.loop-place-preserved
loop-place-preserved c =
    let inside : c.loop-place.place - 1 < length c.args.named.now
    = omega (arith, c.loop-place-test.true, c.loop-place.auto.place) in
    let next : suc (c.loop-place.place - 1) ≡ c.loop-place.place = omega (arith, c.loop-place-test.true) in
    record {
      sorted = rise_at c.args.named.now (c.loop-place.place - 1) c.loop-place.place c.index-named-place.result
          c.in_ok-member.member c.loop-place.sorted.items
          next inside c.index-named-place.is c.loop-place.invariant.sorted (sym c.in_ok-member.ensures)
          ∙ ap (λ (l : List Member). Some l) (sym c.put_in.ensures.items);
      left = omega (arith, c.put_in.ensures.more, c.loop-place.invariant.left, c.loop-place-test.true);
    }
