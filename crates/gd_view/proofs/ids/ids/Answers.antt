use Rattle.std.proofs.Common.{◌++◌, ap, ◌∙◌, arith}
use Rattle.std.specs.Prelude.{option_to_list}
use Rattle.gd_base.specs.Stamps.{stamp_cmp}
use Rattle.gd_view.proofs.LevelLemmas.{held_next, ids_sorted}
use Rattle.gd_view.proofs.ids.ids.Goals as goal

pub loop-place-preserved : goal.loop-place-preserved
loop-place-preserved c =
    held_next (λ e. e.0) c.args.canvas.now c.loop-place.place c.loop-place.ids.items c.add.new.ids.items _
    (omega (arith, c.loop-place-test.true, c.slots-place-end.ensures.count))
    c.loop-place.invariant
    (c.in_ok-add.ensures ∙ ap (λ x. c.loop-place.ids.items ++ option_to_list x) c.id_at.ensures)

pub returns : goal.returns
unfolding stamp_cmp
returns c =
    ids_sorted c.args.canvas.now c.loop-place.place c.loop-place.ids.items c.sort_unstable.new.self.items
    c.slots.ensures.distinct
    (omega (arith, c.loop-place-test.false, c.slots-place-end.ensures.count))
    c.loop-place.invariant c.sort_unstable.ensures.permutation c.sort_unstable.ensures.sorted
