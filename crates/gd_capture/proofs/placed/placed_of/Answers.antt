use Rattle.std.proofs.Common.{◌++◌, ◌∙◌}
use Rattle.std.specs.List.{filter_map}
use Rattle.gd_slots.specs.Slots.{board_of}
use Rattle.gd_capture.specs.Placing.{placed_in}
use Rattle.gd_capture.proofs.Placing.{placed_by_ids}
use Rattle.gd_capture.proofs.placed.placed_of.Goals as goal

pub ids-init : goal.ids-init
ids-init c =
    let b = board_of c.args.canvas.now in
    let ids = c.deref-id-items.ensures.value ∙ c.in_ok-ids.ensures in
    (λ i. c.new-placed.ensures i ++ filter_map (placed_in b) (ids i)) ∙ placed_by_ids b
