-- What comes of the events of a frame that comes to a viewer.
use Rattle.std.specs.List.{AllByRecursion}
use Rattle.std.specs.Prelude.{ℕ, List, IsTrue}
use Rattle.gd_base.specs.Sites.{is_site}
use Rattle.gd_events.specs.Events.{Event}

-- the events are of sites of the session
abbrev pub AreInside : ℕ → List Event → Type 0
AreInside sites events = AllByRecursion (λ e. IsTrue (is_site sites e.stamp.site)) events
