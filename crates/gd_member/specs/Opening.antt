-- What comes of opening a journal's bytes.
use Rattle.std.specs.Prelude.{◌≡◌, ◌+◌, ◌++◌, ℕ, List, sum, Result, Ok, Err}
use Rattle.gd_events.specs.Events.{Event}
use Rattle.gd_member.specs.Members.{MemberValue}
use Rattle.gd_member.specs.Standing.{Stands}
use Rattle.gd_model.specs.Arrivals.{costs}
use Rattle.gd_reference.specs.Rejoin.{Found, Events}
use Rattle.gd_reference.specs.SlowSite.{resumed}
use Rattle.gd_rejoin.specs.Faults.{IsFound}
use Rattle.gd_rejoin.specs.declared.fault.ResumeFault.{ResumeFault}

-- Where events are found, it is a member that begins anew with them, all of which its journal has. Else it is what is
-- found, or memory ran out; there is no other fault.
abbrev pub OpenIs : ℕ → ℕ → ℕ → Found → Result MemberValue ResumeFault → Type 0
OpenIs me sites session there (Ok m) =
    (events : List Event) × (there ≡ Events events) × Stands (resumed me sites session events) events m
OpenIs me sites session there (Err fault) = IsFound fault there

-- the steps are those of the arrivals of the events that are found; where memory ran out those of the first of them
abbrev pub PaysFor : Found → Result MemberValue ResumeFault → ℕ → ℕ → Type 0
PaysFor (Events events) (Ok m) before after = after ≡ before + sum (costs events)
PaysFor (Events events) (Err fault) before after =
    (front : List ℕ) × (back : List ℕ) × (costs events ≡ front ++ back) × (after ≡ before + sum front)
PaysFor other result before after = after ≡ before
