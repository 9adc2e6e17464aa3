-- What comes of an event of any kind that arrives, and what it costs: by the held events behind it in stamp order, and
-- the two relations alone. The first tells whether two events are independent, the second whether its first event
-- covers the other.
use Rattle.std.specs.Prelude.{ℕ, Bool, List, [], ◌∷◌, ◌++◌, map}
use Rattle.std.specs.List.{filter}
use Rattle.gd_base.specs.Stamps.{is_before}
use Rattle.gd_events.specs.Events.{EventValue}
use Rattle.gd_events.specs.Ordered.{ordered}
use Rattle.gd_repair.specs.Repair.{Stamped, stamped, Outcome, outcome, cost}

-- the operation of an event under its stamp, which is all that a document sees of it
abbrev pub drawn : {O : Type 0} → EventValue O → Stamped O
drawn e = stamped e.stamp e.op

abbrev pub all_drawn : {O : Type 0} → List (EventValue O) → List (Stamped O)
all_drawn events = map drawn events

-- the held events behind e, in stamp order
abbrev pub later : {O : Type 0} → List (EventValue O) → EventValue O → List (Stamped O)
later held e = all_drawn (filter (λ f. is_before e.stamp f.stamp) (ordered held))

-- what comes of e where these are held
abbrev pub outcome_of : {O : Type 0} → (Stamped O → Stamped O → Bool) → (Stamped O → Stamped O → Bool)
    → List (EventValue O) → EventValue O → Outcome (Stamped O)
outcome_of independent covers held e = outcome independent covers (drawn e) (later held e)

abbrev pub cost_of : {O : Type 0} → (Stamped O → Stamped O → Bool) → (Stamped O → Stamped O → Bool)
    → List (EventValue O) → EventValue O → ℕ
cost_of independent covers held e = cost (outcome_of independent covers held e)

-- the steps of each of these events, arriving one after another where those are held
abbrev pub costs_from : {O : Type 0} → (Stamped O → Stamped O → Bool) → (Stamped O → Stamped O → Bool)
    → List (EventValue O) → List (EventValue O) → List ℕ
costs_from independent covers held [] = []
costs_from independent covers held (e ∷ es) =
    cost_of independent covers held e ∷ costs_from independent covers (held ++ e ∷ []) es

-- the steps of each event of a list, arriving in its order
abbrev pub costs : {O : Type 0} → (Stamped O → Stamped O → Bool) → (Stamped O → Stamped O → Bool)
    → List (EventValue O) → List ℕ
costs independent covers events = costs_from independent covers [] events
