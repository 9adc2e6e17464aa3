-- How events that arrived one after another went, by numbers.
use Rattle.std.specs.Prelude.{ℕ, ◌+◌, Bool, List, [], ◌∷◌, ◌++◌, length}
use Rattle.gd_events.specs.Events.{EventValue}
use Rattle.gd_repair.specs.Repair.{Stamped, Outcome}
use Rattle.gd_repair.specs.Repair.Outcome.{applied, dropped, reworked}
use Rattle.gd_arrivals.specs.Arrivals.{outcome_of}

-- how many events were applied, dropped and reworked, and how many later events were undone and redone for the last of
-- these
pub record Tally : Type 0 where
  pub applied : ℕ
  pub dropped : ℕ
  pub reworked : ℕ
  pub undone : ℕ

abbrev pub no_tally : Tally
no_tally = record { applied = 0; dropped = 0; reworked = 0; undone = 0 }

-- with one more event
abbrev pub tallied : {E : Type 0} → Tally → Outcome E → Tally
tallied t applied = record t { applied = t.applied + 1 }
tallied t (dropped by) = record t { dropped = t.dropped + 1 }
tallied t (reworked undone) = record t { reworked = t.reworked + 1; undone = t.undone + length undone }

-- with each of these events, arriving one after another where those are held
unfoldable pub tally_from : {O : Type 0} → (Stamped O → Stamped O → Bool) → (Stamped O → Stamped O → Bool)
    → Tally → List (EventValue O) → List (EventValue O) → Tally
tally_from independent covers t held [] = t
tally_from independent covers t held (e ∷ es) =
    tally_from independent covers (tallied t (outcome_of independent covers held e)) (held ++ e ∷ []) es

-- of the events of a list, arriving in its order
abbrev pub tally : {O : Type 0} → (Stamped O → Stamped O → Bool) → (Stamped O → Stamped O → Bool)
    → List (EventValue O) → Tally
tally independent covers events = tally_from independent covers no_tally [] events
