use Rattle.std.proofs.Common.{◌≡◌, ◌<◌, ◌∙◌, length, sym, subst, arith}
use Rattle.std.proofs.lemmas.List.{length-set}
use Rattle.std.proofs.lemmas.Result.{on_ok_weaker}
use Rattle.gd_history.specs.Indexes.{Has}
use Rattle.gd_history.proofs.Spreads.{there_new, kept-one, spread-more}
use Rattle.gd_history.proofs.spread.Spread.put.Goals as goal

pub invariant_of-self-2 : goal.invariant_of-self-2
invariant_of-self-2 c =
    let sets = c.open.new.sets.items in
    let at = c.set_of.result in
    let new = c.put.new.self in
    let long : length sets ≡ 251 = c.in_ok-open.ensures.made in
    let within : at < length sets = omega (arith, long, c.set_of.ensures.below) in (
      spread-more sets (c.open.ensures.spread c.self.invariant.0) c.args.key at c.set_of.ensures.value within
          c.index_mut.result.now c.index_mut.ensures.value new c.put.ensures.others,
      λ some. length-set sets at new ∙ long,
    )

pub returns : goal.returns
returns c =
    let sets = c.open.new.sets.items in
    let at = c.set_of.result in
    let new = c.put.new.self in
    let long : length sets ≡ 251 = c.in_ok-open.ensures.made in
    let within : at < length sets = omega (arith, long, c.set_of.ensures.below) in
    record {
      put = on_ok_weaker c.put.result (there_new sets at new within c.args.key c.args.stamp) c.put.ensures.put;
      kept = λ k s h.
          kept-one sets at new within c.index_mut.result.now c.index_mut.ensures.value k s (c.put.ensures.kept k s)
          (subst (λ l. Has l k s) (sym (c.open.ensures.same ∙ c.self.view_is)) h);
    }
