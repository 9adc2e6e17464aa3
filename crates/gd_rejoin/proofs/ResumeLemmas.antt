-- Going on from the contents of a journal.
use Rattle.std.proofs.Common.{◌≡◌, ℕ, List}
use Rattle.std.specs.Prelude.{Result, Ok, Err, IfErr, IfOk, IsSome, OnErr}
use Rattle.gd_effects.specs.Crashes.{Stands}
use Rattle.gd_events.specs.Events.{Event}
use Rattle.gd_grammar.specs.Closing.{Closes}
use Rattle.gd_grammar.specs.Drawings.{drawings}
use Rattle.gd_grammar.specs.HeaderBytes.{Header}
use Rattle.gd_logs.specs.Written.{Writer}
use Rattle.gd_outside.specs.Disk.{Disk, Kept, goes_on}
use Rattle.gd_outside.specs.Seen.{SeenJournal}
use Rattle.gd_outside.specs.Told.{told}
use Rattle.gd_reference.specs.Rejoin.{Events, found}
use Rattle.gd_rejoin.specs.Faults.{IsFoundOrFailed}
use Rattle.gd_rejoin.specs.Resuming.{Resumes, ResumeIs, PaysFirst}
use Rattle.gd_rejoin.specs.declared.fault.ResumeFault.{ResumeFault}
use Rattle.gd_rejoin.specs.declared.fault.ResumeFault.TheVariants as fault
use Rattle.gd_site.specs.Sites.{SiteValue}
use Rattle.gd_rejoin.proofs.FoundLemmas.{found-events}

-- a fault that is found is returned
fault-is : (fault : ResumeFault) (h : Header) (contents : List ℕ) (steps steps' : ℕ)
    → IsFoundOrFailed fault (found h contents) → ResumeIs (Err fault) h contents steps steps'
fault-is fault.Journal h contents steps steps' is = tt
fault-is (fault.Bad at why) h contents steps steps' is = is
fault-is (fault.Other header) h contents steps steps' is = is
fault-is fault.NoMemory h contents steps steps' is = tt

-- contents that were synced are what a crash leaves
pub stands-kept : (h : Header) (events : List Event) (old : Disk) (journal : SeenJournal)
    → journal.disk ≡ goes_on old (Kept (told journal.contents)) → Closes drawings h events (told journal.contents)
    → Stands drawings h events journal
stands-kept h events old journal kept closes = record {
  contents = closes;
  images = λ image is. let e : image ≡ told journal.contents = (rw kept at is) in rw e closes;
}

module _ (h : Header) (events : List Event) (steps steps' : ℕ) where
  pub pays-first : (told : Type 0) (contents : List ℕ) (result : Result (SiteValue × Writer) ResumeFault)
      → (told → Closes drawings h events contents) → OnErr result (PaysFirst (Events events) steps steps')
      → OnErr result (told → PaysFirst (found h contents) steps steps')
  pays-first told contents (Ok x) closes paid = tt
  pays-first told contents (Err f) closes paid = λ is_told. rw (found-events h contents events (closes is_told)) paid

  pub resume-is : (contents : List ℕ) (result : Result (SiteValue × Writer) ResumeFault)
      → Closes drawings h events contents
      → IfOk result (λ x. Resumes h events x.0 x.1 steps steps') → IfErr result (λ f. f ≡ fault.NoMemory)
      → ResumeIs result h contents steps steps'
  resume-is contents (Ok x) closes goes_on memory = (events, found-events h contents events closes, goes_on)
  resume-is contents (Err f) closes goes_on memory = fault-is f h contents steps steps' (rw memory tt)

  pub resume-stands : (result : Result (SiteValue × Writer) ResumeFault) (journal : SeenJournal)
      → IfOk result (λ x. Resumes h events x.0 x.1 steps steps')
      → (IsSome journal.contents → Stands drawings h events journal)
      → IfOk result (λ x. (events : List Event) × Resumes h events x.0 x.1 steps steps'
      × (IsSome journal.contents → Stands drawings h events journal))
  resume-stands (Ok x) journal goes_on stands = (events, goes_on, stands)
  resume-stands (Err f) journal goes_on stands = tt
