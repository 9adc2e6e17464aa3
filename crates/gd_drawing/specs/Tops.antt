-- What is at the end of a drawing, and what is in front.
use Rattle.std.specs.Prelude.{◌≡◌, true, Bool, List}
use Rattle.std.specs.List.{list_all, AllByRecursion}
use Rattle.gd_base.specs.Stamps.{Stamp, is_before}
use Rattle.gd_events.specs.Events.{Event}
use Rattle.gd_events.specs.Sound.{names_before}
use Rattle.gd_base.specs.Ranks.{given_at}
use Rattle.gd_model.specs.Drawing.{Drawing}

-- each object got its rank before s
abbrev pub ranks_before : Stamp → Drawing → Bool
ranks_before s d = list_all (λ e. is_before (given_at e.1.rank) s) d

-- the event is before s, and names nothing that isn't before itself
abbrev pub IsBefore : Stamp → Event → Type 0
IsBefore s e = (is_before e.stamp s ≡ true) × (names_before e.stamp e.op ≡ true)

-- so are all of them
abbrev pub AreBefore : Stamp → List Event → Type 0
AreBefore s events = AllByRecursion (IsBefore s) events
