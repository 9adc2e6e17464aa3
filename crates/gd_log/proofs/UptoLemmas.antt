-- What `replay` owes where it is asked to go up to a fault.
use Rattle.std.proofs.Common.{◌≡◌, ◌∙◌, ◌⊎◌, inl, inr, ℕ, zero, suc, ◌≤◌, Bool, List, [], ◌∷◌, ◌++◌, length, refl, sym}
use Rattle.std.proofs.Common.{ap, append_assoc, arith}
use Rattle.std.specs.Prelude.{Some, None, Ok, Err}
use Rattle.std.proofs.lemmas.List.{append-nil, length-append}
use Rattle.gd_base.specs.declared.fault.LogWhy.{LogWhy}
use Rattle.gd_events.specs.Events.{Event}
use Rattle.gd_events.specs.Sound.{IsOp}
use Rattle.gd_options.specs.declared.format.Format.{Format}
use Rattle.gd_outside.specs.declared.status.Status.TheVariants as status
use Rattle.gd_lines.specs.Text.{bad_log_line}
use Rattle.gd_effects.specs.Effects.{Effect, Print}
use Rattle.gd_grammar.specs.Drawings.{drawings, log}
use Rattle.gd_grammar.specs.HeaderBytes.{Header, header_at, header_bytes}
use Rattle.gd_grammar.specs.LogBytes.{LogMisread, gate, gated_bytes, in_log, record_bytes, step_at}
use Rattle.gd_grammar.specs.Reading.{place}
use Rattle.gd_grammar.proofs.DrawingKind.{drawing_laws}
use Rattle.gd_grammar.proofs.ExactHeader.{exact_header}
use Rattle.gd_logs.specs.Fronts.{IsFront, IsNoFault, StopsAtHeader, StopsBehind}
use Rattle.gd_logs.specs.Written.{AreNext}
use Rattle.gd_logs.specs.declared.front.FaultAt.{FaultAt}
use Rattle.gd_logs.specs.declared.log.ReadError.{ReadError}
use Rattle.gd_logs.specs.declared.log.ReadError.TheVariants.{Log, Memory}
use Rattle.gd_logs.specs.declared.stopped.LogFault.{LogFault}
use Rattle.gd_logs.specs.declared.stopped.LogFault.TheVariants.{Bad, Read}
use Rattle.gd_logs.proofs.WrittenLemmas.{step-next}
use Rattle.gd_reference.specs.SlowRun.{replay_effects, ended_as, ended_by}
use Rattle.gd_reference.specs.UptoFault.{behind_header, events_before, events_upto, replayed_by, replayed_by_as}
use Rattle.gd_reference.specs.UptoFault.{shown_where}

-- ---- the events before a fault

-- one step further
upto-more : (k : ℕ) (h : Header) (seen : List Event) (e : Event) (bytes left : List ℕ)
    → step_at drawings h seen bytes ≡ Ok (Some (e, left))
    → events_upto (suc k) h seen bytes ≡ events_upto k h (seen ++ e ∷ []) left
unfolding events_upto
upto-more k h seen e bytes left is = rw is refl

-- no further
upto-fault : (k : ℕ) (h : Header) (seen : List Event) (bytes : List ℕ) (fault : LogMisread)
    → step_at drawings h seen bytes ≡ Err fault
    → events_upto k h seen bytes ≡ seen
unfolding events_upto
upto-fault zero h seen bytes fault is = refl
upto-fault (suc k) h seen bytes fault is = rw is refl

-- events that obey the rules, and then a fault
upto-gated : (k : ℕ) (h : Header) (seen events : List Event) (rest : List ℕ) (fault : LogMisread)
    → AreNext IsOp drawings h seen events
    → step_at drawings h (seen ++ events) rest ≡ Err fault → length events ≤ k
    → events_upto k h seen (gated_bytes drawings h.version seen events ++ rest) ≡ seen ++ events
unfolding gated_bytes AreNext
upto-gated k h seen [] rest fault next is few =
    upto-fault k h seen rest fault (ap (λ (l : List Event). step_at drawings h l rest) (sym (append-nil seen)) ∙ is)
    ∙ sym (append-nil seen)
upto-gated zero h seen (e ∷ es) rest fault next is few = absurd (omega (arith, few))
upto-gated (suc k) h seen (e ∷ es) rest fault next is few =
    let here = record_bytes drawings h.version seen e in
    let behind = gated_bytes drawings h.version (seen ++ e ∷ []) es in
    ap (λ (l : List ℕ). events_upto (suc k) h seen (gate ∷ l)) (append_assoc here behind rest)
    ∙ upto-more k h seen e (gate ∷ (here ++ (behind ++ rest))) (behind ++ rest)
    (step-next drawing_laws h seen e (behind ++ rest) next.0 next.1)
    ∙ upto-gated k h (seen ++ e ∷ []) es rest fault next.2
    (ap (λ (l : List Event). step_at drawings h l rest) (append_assoc seen (e ∷ []) es) ∙ is) (omega (arith, few))
    ∙ append_assoc seen (e ∷ []) es

-- each event has a byte and more
gated-long : (h : Header) (seen events : List Event)
    → length events ≤ length (gated_bytes drawings h.version seen events)
unfolding gated_bytes
gated-long h seen [] = omega arith
gated-long h seen (e ∷ es) =
    omega (
      arith,
      gated-long h (seen ++ e ∷ []) es,
      length-append (record_bytes drawings h.version seen e) (gated_bytes drawings h.version (seen ++ e ∷ []) es),
    )

before-behind : (events : List Event) (bytes : List ℕ) → StopsBehind IsOp drawings events bytes
    → events_before bytes ≡ events
unfolding events_before
before-behind events bytes stops =
    let h = stops.h in
    let head = header_bytes drawings h in
    let all = gated_bytes drawings h.version [] events in
    let left = all ++ stops.rest in
    let whole : bytes ≡ head ++ left = stops.is ∙ append_assoc head all stops.rest in
    ap behind_header (ap in_log (ap (header_at drawings) whole
    ∙ (exact_header drawings drawing_laws.magic).written h left
    (record { is = stops.ruled.header; session = stops.ruled.session; version = stops.ruled.version })))
    ∙ upto-gated (length left) h [] events stops.rest stops.fault stops.ruled.next stops.step
    (omega (arith, gated-long h [] events, length-append all stops.rest))

before-header : (events : List Event) (bytes : List ℕ) → StopsAtHeader drawings events bytes
    → events_before bytes ≡ events
unfolding events_before
before-header events bytes stops = ap behind_header stops.header ∙ sym stops.none

front-before : (events : List Event) (bytes : List ℕ)
    → StopsBehind IsOp drawings events bytes ⊎ StopsAtHeader drawings events bytes
    → events_before bytes ≡ events
front-before events bytes (inl stops) = before-behind events bytes stops
front-before events bytes (inr stops) = before-header events bytes stops

-- ---- what is owed

-- for a log it is what is owed where that isn't asked for
pub owes-whole : (upto : Bool) (format : Format) (counts : Bool) (events : List Event) (bytes : List ℕ)
    → IsFront IsOp drawings events None bytes
    → (replayed_by upto format counts bytes ≡ replay_effects format counts events) × (ended_by bytes ≡ status.Done)
owes-whole upto format counts events bytes front =
    (ap (replayed_by_as upto format counts bytes) front.1, ap ended_as front.1)

-- for a log with a fault it is that the events before it are shown, where that is asked for, and the line of the fault
abbrev pub refused_at : Bool → Format → Bool → List Event → ℕ → LogWhy → List Effect
refused_at upto format counts events at why =
    shown_where upto format counts events ++ Print (bad_log_line at why) ∷ []

pub owes-upto : (upto : Bool) (format : Format) (counts : Bool) (events : List Event) (fault : FaultAt) (bytes : List ℕ)
    → IsFront IsOp drawings events (Some fault) bytes
    → (replayed_by upto format counts bytes ≡ refused_at upto format counts events fault.at fault.why)
    × (ended_by bytes ≡ status.BadLog)
owes-upto upto format counts events fault bytes front = (
  ap (replayed_by_as upto format counts bytes) front.0.is
      ∙ ap (λ (l : List Event). refused_at upto format counts l (place bytes front.0.left) fault.why)
      (front-before events bytes front.1)
      ∙ ap (λ (p : ℕ). refused_at upto format counts events p fault.why) (sym front.0.there),
  ap ended_as front.0.is,
)

-- a front fails by the source where not for want of memory
pub front_read : (error : ReadError) (fault : LogFault) → IsNoFault error → error ≡ Log fault → error ≡ Log Read
front_read (Log Read) fault ok is = refl
front_read (Log (Bad at why)) fault ok is = absurd ok
front_read Memory fault ok is = cc
