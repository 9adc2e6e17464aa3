-- The chain of checks of the events that one site made: C(0) is 0, and C(k) is the check of C(k - 1) and the spelled
-- event k. So C(k) is the CRC-32C of the first k events, spelled one behind the other. It finds accidents, not malice.
use Rattle.std.specs.Prelude.{◌≡◌, ℕ, ◌-◌, ◌≤◌, List, [], ◌∷◌, ◌==◌, length, replicate, slice_index, slice_set}
use Rattle.std.specs.List.{filter}
use Rattle.gd_base.specs.declared.ranges.TheConstants.{SITES}
use Rattle.gd_check.specs.Checks.{check}
use Rattle.gd_events.specs.Events.{EventValue}
use Rattle.gd_grammar.specs.Kinds.{LogKind, spelling}

-- the check of what has that check, and of these events behind it
unfoldable pub chained : {O : Type 0} → LogKind O → ℕ → List (EventValue O) → ℕ
chained kind c [] = c
chained kind c (e ∷ es) = chained kind (check c (spelling kind e)) es

-- the check of events from the first on
abbrev pub chain : {O : Type 0} → LogKind O → List (EventValue O) → ℕ
chain kind events = chained kind 0 events

-- the events that the site made, in the order of the list
unfoldable pub of_site : {O : Type 0} → ℕ → List (EventValue O) → List (EventValue O)
of_site site events = filter (λ e. e.stamp.site == site) events

-- the check of that site's events among these
abbrev pub check_at : {O : Type 0} → LogKind O → ℕ → List (EventValue O) → ℕ
check_at kind site seen = chain kind (of_site site seen)

-- the check of the event's site with the event, where these stand before it
abbrev pub check_with : {O : Type 0} → LogKind O → List (EventValue O) → EventValue O → ℕ
check_with kind seen e = check (check_at kind e.stamp.site seen) (spelling kind e)

-- ---- for each site, the check of its events, one behind the other

-- of no events
abbrev pub no_chains : List ℕ
no_chains = replicate SITES 0

-- once an event of that site came, whose bytes these are
abbrev pub with_taken : List ℕ → ℕ → List ℕ → List ℕ
with_taken chains site bytes = slice_set chains (site - 1) (check (slice_index chains (site - 1)) bytes)

-- they are those of these events
pub record AreChains {O : Type 0} (kind : LogKind O) (chains : List ℕ) (seen : List (EventValue O)) : Type 0 where
  pub long : length chains ≡ SITES
  pub are : (site : ℕ) → 1 ≤ site → site ≤ SITES → slice_index chains (site - 1) ≡ check_at kind site seen
