-- What going on from a journal returns.
use Rattle.std.specs.Prelude.{◌≡◌, ℕ, ◌+◌, ◌^◌, ◌≤◌, List, ◌++◌, sum, Result, Ok, Err}
use Rattle.gd_events.specs.Events.{Event}
use Rattle.gd_events.specs.Sound.{IsOp}
use Rattle.gd_grammar.specs.Chains.{AreChains}
use Rattle.gd_grammar.specs.Closing.{gate_place}
use Rattle.gd_grammar.specs.Drawings.{drawings}
use Rattle.gd_grammar.specs.HeaderBytes.{Header}
use Rattle.gd_logs.specs.Written.{IsRuled, Writer}
use Rattle.gd_model.specs.Arrivals.{costs}
use Rattle.gd_reference.specs.Rejoin.{Found, Events, Faulty, Other, found}
use Rattle.gd_reference.specs.SlowSite.{resumed}
use Rattle.gd_rejoin.specs.declared.fault.ResumeFault.{ResumeFault}
use Rattle.gd_rejoin.specs.declared.fault.ResumeFault.TheVariants as fault
use Rattle.gd_site.specs.Sites.{SiteValue, StandsFor}

-- The site stands for one that begins anew with these events of that header's log, the writer stands at the log's
-- closing gate and has the checks of its events, and the arrivals of the events are paid for.
pub record Resumes (header : Header) (events : List Event) (site : SiteValue) (writer : Writer)
    (steps steps' : ℕ) : Type 0 where
  pub ruled : IsRuled IsOp drawings header events
  pub stands : StandsFor (resumed header.site header.n header.session events) site
  pub gate : writer.place ≡ gate_place drawings header.version events
  pub near : writer.place ≤ 2 ^ 31
  pub chained : AreChains drawings writer.chains events
  pub paid : steps' ≡ steps + sum (costs events)

-- What it returns is what is found in the contents; only the journal, or want of memory, keeps it from that.
abbrev pub ResumeIs : Result (SiteValue × Writer) ResumeFault → Header → List ℕ → ℕ → ℕ → Type 0
ResumeIs (Ok x) header contents steps steps' =
    (events : List Event) × (found header contents ≡ Events events) × Resumes header events x.0 x.1 steps steps'
ResumeIs (Err (fault.Bad at why)) header contents steps steps' = found header contents ≡ Faulty at why
ResumeIs (Err (fault.Other other)) header contents steps steps' = found header contents ≡ Other other
ResumeIs (Err fault.Journal) header contents steps steps' = Unit {0}
ResumeIs (Err fault.NoMemory) header contents steps steps' = Unit {0}

-- the first of the arrivals of what is found are paid for; where there is nothing to go on from, nothing is
abbrev pub PaysFirst : Found → ℕ → ℕ → Type 0
PaysFirst (Events events) steps steps' =
    (front : List ℕ) × (back : List ℕ) × (costs events ≡ front ++ back) × (steps' ≡ steps + sum front)
PaysFirst (Faulty at why) steps steps' = steps' ≡ steps
PaysFirst (Other other) steps steps' = steps' ≡ steps
