-- What contracts see of what takes gestures back.
use Rattle.std.specs.Prelude.{ℕ, List}
use Rattle.gd_events.specs.Events.{Event}
use Rattle.gd_events.specs.Ops.{Op}

-- the newest first, and for how many more there is room
pub record BackListValue : Type 0 where
  pub gestures : List (List Op)
  pub spare : ℕ

-- events that were made together, and what takes them back, the last one first
pub record GestureValue : Type 0 where
  pub events : List Event
  pub back : List Op
