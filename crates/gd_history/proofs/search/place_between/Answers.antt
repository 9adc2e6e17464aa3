use Rattle.std.proofs.Common.{◌∙◌, ap, arith}
use Rattle.gd_base.specs.Stamps.{is_before}
use Rattle.gd_history.proofs.Halving.{halved}
use Rattle.gd_history.proofs.search.place_between.Goals as goal

pub loop-low-preserved : goal.loop-low-preserved
loop-low-preserved g c =
    let low = c.loop-low.low in
    let high = c.loop-low.high in
    let below = c.loop-low-test.true in
    halved c.args.stamp c.args.entries.now.items c.requires.rising low high _ c.loop-low.invariant (omega arith)
    (omega arith) c.entry_at.result.now c.entry_at.ensures c.is_before-later.result
    (c.is_before-later.ensures ∙ ap (is_before c.args.stamp) c.stamp.ensures) c.narrowed.result c.narrowed.ensures
