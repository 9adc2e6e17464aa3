-- The objects of a board behind their ids.
use Rattle.std.specs.Prelude.{Option, option_map}
use Rattle.std.specs.FinMap as map_of
use Rattle.gd_base.specs.Stamps.{Stamp}
use Rattle.gd_model.specs.Board.{Board}
use Rattle.gd_snapshots.specs.Snapshots.{Placed}

-- the object of that id behind it, where it is there
abbrev pub placed_in : Board → Stamp → Option Placed
placed_in b id = option_map (λ o. (id, o)) (map_of.get b id)
