use Rattle.std.proofs.Common.{◌≡◌, ◌++◌, drop}
use Rattle.std.specs.FinMap as map_of
use Rattle.std.specs.List.{filter_map}
use Rattle.gd_slots.specs.Slots.{board_of}
use Rattle.gd_capture.specs.Placing.{placed_in}
use Rattle.gd_capture.proofs.placed.placed_of.Given as goal

abbrev pub invariant-ids : goal.invariant-ids
invariant-ids l =
    l.placed ++ filter_map (placed_in (board_of l.canvas)) (drop l.id-index l.id-items)
    ≡ map_of.entries (board_of l.canvas)
