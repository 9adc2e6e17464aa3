use Rattle.std.proofs.Common.{◌++◌, ap, ◌∙◌, arith}
use Rattle.std.specs.Prelude.{option_to_list}
use Rattle.gd_base.specs.Stamps.{stamp_cmp}
use Rattle.gd_base.specs.Ranks.{rank_cmp, level_cmp}
use Rattle.gd_view.specs.Levels.{level_of}
use Rattle.gd_view.proofs.LevelLemmas.{held_next, levels_sorted}
use Rattle.gd_view.proofs.levels.levels.Goals as goal

pub loop-place-preserved : goal.loop-place-preserved
loop-place-preserved c =
    held_next level_of c.args.canvas.now c.loop-place.place c.loop-place.levels.items c.add.new.levels.items _
    (omega (arith, c.loop-place-test.true, c.slots-place-end.ensures.count))
    c.loop-place.invariant
    (c.in_ok-add.ensures ∙ ap (λ x. c.loop-place.levels.items ++ option_to_list x) c.level_at.ensures)

pub returns : goal.returns
unfolding stamp_cmp rank_cmp level_cmp
returns c =
    levels_sorted c.args.canvas.now c.loop-place.place c.loop-place.levels.items c.sort_unstable.new.self.items
    c.slots.ensures.distinct
    (omega (arith, c.loop-place-test.false, c.slots-place-end.ensures.count))
    c.loop-place.invariant c.sort_unstable.ensures.permutation c.sort_unstable.ensures.sorted
