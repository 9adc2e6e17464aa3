-- Events in the order in which they were pushed, with the room that is there for more of them.
use Rattle.std.specs.Prelude.{ℕ, List, nat_lt}
use Rattle.std.specs.List.{filter}
use Rattle.gd_events.specs.Events.{Event}
use Rattle.gd_reference.specs.Fitting.{in_a_frame}

-- the events, and how many more fit without memory for the list
pub record OutboxValue : Type 0 where
  pub events : List Event
  pub spare : ℕ

-- the events that are numbered above k
abbrev pub numbered_above : ℕ → List Event → List Event
numbered_above k events = filter (λ e. nat_lt k e.number) events

-- the first of them, as many as fit into a frame
abbrev pub first_above : ℕ → List Event → List Event
first_above k events = in_a_frame (numbered_above k events)
