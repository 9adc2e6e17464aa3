use Rattle.std.proofs.Common.{◌≡◌, ◌++◌, drop}
use Rattle.std.specs.List.{filter_map}
use Rattle.gd_model.specs.Board.{listed}
use Rattle.gd_model.specs.Shown.{shown_items}
use Rattle.gd_slots.specs.Slots.{board_of}
use Rattle.gd_view.proofs.LevelLemmas.{item_at_level}
use Rattle.gd_view.proofs.listing.shown_items.Given as goal

abbrev pub invariant-loop-level : goal.invariant-loop-level
invariant-loop-level l =
    l.items.items ++ filter_map (item_at_level (board_of l.canvas)) (drop l.level-index l.level-items)
    ≡ shown_items (listed (board_of l.canvas))
