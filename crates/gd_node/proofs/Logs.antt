-- The log in a node's journal: events are added together, once or several times.
use Rattle.std.proofs.Common.{◌≡◌, ℕ, ◌+◌, ◌==◌, true, false, eqb-true, List, [], ◌∷◌, ◌++◌, length, take, drop, refl}
use Rattle.std.proofs.Common.{sym, ◌∙◌, ap, subst, append-nil, append_assoc, inl, inr, arith}
use Rattle.std.proofs.lemmas.Bool.{eqb-false}
use Rattle.std.proofs.lemmas.List.{take_at}
use Rattle.std.specs.Prelude.{IsSome, Result, Ok, Err}
use Rattle.gd_base.specs.declared.version.Version.TheVariants.{Three}
use Rattle.gd_effects.proofs.OneRecord.{one_record}
use Rattle.gd_effects.specs.Crashes.{Adds, AddsTorn, Stands}
use Rattle.gd_effects.specs.Done.{DoesAll, IsWithOrWithout}
use Rattle.gd_effects.specs.Effects.{Record}
use Rattle.gd_effects.specs.Gestures.{events_of}
use Rattle.gd_effects.specs.Outside.{outside}
use Rattle.gd_events.specs.Events.{Event}
use Rattle.gd_events.specs.Sound.{IsOp}
use Rattle.gd_grammar.proofs.DrawingKind.{drawing_laws}
use Rattle.gd_grammar.proofs.GatedBytes.{gate_place-all, gated-one}
use Rattle.gd_grammar.specs.Chains.{AreChains}
use Rattle.gd_grammar.specs.Closing.{Closes, gate_place}
use Rattle.gd_grammar.specs.Drawings.{drawings, log}
use Rattle.gd_grammar.specs.HeaderBytes.{Header}
use Rattle.gd_grammar.specs.LogBytes.{LogMisread, gated_bytes, record_bytes}
use Rattle.gd_logs.proofs.ClosingLemmas.{closes-all, front-length, front_of}
use Rattle.gd_logs.proofs.SpelledLemmas.{gated-few}
use Rattle.gd_logs.specs.Written.{AddsEvents, AreRecords, IsRuled, IsStanding, MayAddEvents, Records, Writer}
use Rattle.gd_node.specs.Meeting.{HasLog}
use Rattle.gd_outside.specs.Called.{JournalCalled}
use Rattle.gd_outside.specs.Journals.{put_at}
use Rattle.gd_outside.specs.Seen.{SeenSource, SeenSink, SeenJournal, SeenLink}
use Rattle.gd_outside.specs.Told.{told}
use Rattle.gd_reference.specs.SiteEffects.{recording}
use Rattle.gd_reference.specs.SlowSite.{SlowSite, journal_header, log_end}

-- ---- one journal

abbrev log_or : Header × List Event → Result (Header × List Event) LogMisread → Header × List Event
log_or other (Ok found) = found
log_or other (Err fault) = other

-- it stands for one log
same_log : (h k : Header) (es fs : List Event) (journal : SeenJournal) → Stands drawings h es journal
    → Stands drawings k fs journal → (h ≡ k) × (es ≡ fs)
same_log h k es fs journal a b =
    let same = ap (log_or (h, es)) (sym a.contents.read ∙ b.contents.read) in
    (ap (λ x. x.0) same, ap (λ x. x.1) same)

-- a writer may go on with it
pub standing : (header : Header) (events : List Event) (writer : Writer) (journal : SeenJournal)
    → HasLog header events writer journal
    → IsSome journal.contents → IsStanding drawings writer.place journal
standing header events writer journal has t = (header, events, has.stands t, has.gate)

-- with events put over its closing gate, from an open gate on, it is the log of those too
closes_put : (h : Header) (events es : List Event) (old : List ℕ) → IsRuled IsOp drawings h (events ++ es)
    → Closes drawings h events old
    → Closes drawings h (events ++ es)
    (put_at old (gate_place drawings h.version events) (gated_bytes drawings h.version events es ++ 0 ∷ []))
closes_put h events es old ruled c =
    let front = front_of drawings h events in
    let gated = gated_bytes drawings h.version events es in
    let piece = gated ++ 0 ∷ [] in
    let place = gate_place drawings h.version events in
    let rest = drop (place + length piece) old in
    let before : take place old ≡ front =
    ap (take place) c.is ∙ take_at front (c.closing ∷ c.rest) place (omega (arith, front-length drawings h events)) in
    closes-all drawing_laws h events es rest _ ruled
    (ap (λ l. (l ++ piece) ++ rest) before ∙ append_assoc front piece rest
    ∙ ap (λ l. front ++ l) (append_assoc gated (0 ∷ []) rest))

-- how far one event brings the gate
pub one_place : (seen : List Event) (e : Event) (place place' : ℕ)
    → place' ≡ place + 1 + length (record_bytes drawings Three seen e)
    → place' ≡ place + length (gated_bytes drawings Three seen (e ∷ []))
one_place seen e place place' at = omega (arith, at, ap length (gated-one drawings Three seen e))

-- and several
pub all_place : (seen es : List Event) (records : Records) (place place' : ℕ) → AreRecords drawings seen es records
    → place' ≡ place + length records.bytes → place' ≡ place + length (gated_bytes drawings Three seen es)
all_place seen es records place place' are at = omega (arith, at, ap length are.spelled)

-- ---- whether there are any

no_bytes : (seen es : List Event) → length (gated_bytes drawings Three seen es) ≡ 0 → es ≡ []
unfolding gated_bytes
no_bytes seen [] none = refl
no_bytes seen (e ∷ es) none = absurd (omega (arith, none))

module _ (slow : SlowSite) (es : List Event) (records : Records) (are : AreRecords drawings slow.held es records) where
  no_events : (length records.bytes == 0) ≡ true → es ≡ []
  no_events none = no_bytes slow.held es (sym (ap length are.spelled) ∙ eqb-true (length records.bytes) 0 none)

  -- records of no events
  pub none_recorded : (length records.bytes == 0) ≡ true → recording slow es ≡ []
  none_recorded none = ap (recording slow) (no_events none)

  pub none_more : {writer : Writer} {journal : SeenJournal} → (length records.bytes == 0) ≡ true
      → HasLog (journal_header slow) slow.held writer journal
      → HasLog (journal_header slow) (slow.held ++ es) writer journal
  none_more {writer} {journal} none has =
      subst (λ fs. HasLog (journal_header slow) fs writer journal)
      (sym (ap (λ fs. slow.held ++ fs) (no_events none) ∙ append-nil slow.held)) has

-- records of some
pub some_recorded : (slow : SlowSite) (es : List Event) (records : Records) → AreRecords drawings slow.held es records
    → (length records.bytes == 0) ≡ false → recording slow es ≡ Record (log_end slow) slow.held es ∷ []
unfolding gated_bytes
some_recorded slow [] records are some = absurd (eqb-false (length records.bytes) 0 some (ap length are.spelled))
some_recorded slow (e ∷ es) records are some = refl

-- ---- events more

module _ (slow : SlowSite) (es : List Event) (writer : Writer) (old new : SeenJournal)
    (has : HasLog (journal_header slow) slow.held writer old)
    (ruled : IsRuled IsOp drawings (journal_header slow) (slow.held ++ es)) where
  -- they were added
  module _ (was : IsSome new.contents → IsSome old.contents)
      (added : IsSome new.contents → AddsEvents IsOp drawings slow.held es old new) where
    adds : IsSome new.contents → Stands drawings (journal_header slow) slow.held old
        → Adds drawings (journal_header slow) slow.held (es ∷ []) old new
    adds t stands = added t (journal_header slow) refl ruled stands

    pub has_more : (writer' : Writer) → writer'.place ≡ writer.place + length (gated_bytes drawings Three slow.held es)
        → AreChains drawings writer'.chains (slow.held ++ es)
        → HasLog (journal_header slow) (slow.held ++ es) writer' new
    has_more writer' at chained =
        let there : writer'.place ≡ gate_place drawings Three (slow.held ++ es) =
        omega (arith, at, has.gate, gate_place-all drawings Three slow.held es) in
        record {
          stands = λ t.
              subst (λ fs. Stands drawings (journal_header slow) (slow.held ++ fs) new) (append-nil es)
              (adds t (has.stands (was t))).stands;
          gate = there;
          chained = chained;
          near = omega (arith, there, gated-few drawing_laws (journal_header slow) [] (slow.held ++ es) ruled.next);
        }

    -- whatever log the journal is said to stand for
    adds_any : IsSome new.contents → (h : Header) (fs : List Event) → Stands drawings h fs old
        → Adds drawings h fs (es ∷ []) old new
    adds_any t h fs stands =
        let same = same_log (journal_header slow) h slow.held fs old (has.stands (was t)) stands in
        subst (λ k. Adds drawings k fs (es ∷ []) old new) same.0
        (subst (λ gs. Adds drawings (journal_header slow) gs (es ∷ []) old new) same.1 (adds t (has.stands (was t))))

    pub does_record : {failed : Type 0} → JournalCalled old new failed
        → (IsSome new.contents
        → told new.contents ≡ put_at (told old.contents) writer.place
        (gated_bytes drawings Three slow.held es ++ 0 ∷ []))
        → (input : SeenSource) (output : SeenSink) (link : SeenLink) (steps : ℕ)
        → DoesAll (outside input output old link steps) (Record (log_end slow) slow.held es ∷ [])
        (outside input output new link steps)
    does_record called put input output link steps =
        one_record tt old new called input output link steps (log_end slow) slow.held es
        (λ t. put t ∙ ap (λ p. put_at (told old.contents) p (gated_bytes drawings Three slow.held es ++ 0 ∷ []))
        has.gate) adds_any

  -- the journal failed
  module _ (was : IsSome new.contents → IsSome old.contents)
      (added : IsSome new.contents → MayAddEvents IsOp drawings slow.held es old new) where
    torn : IsSome new.contents → Stands drawings (journal_header slow) slow.held old
        → AddsTorn drawings (journal_header slow) slow.held [] (es ∷ []) old new
    torn t stands = added t (journal_header slow) refl ruled stands

    pub crash_torn : IsSome new.contents → (h : Header) (fs : List Event) → Stands drawings h fs old
        → AddsTorn drawings h fs [] (es ∷ []) old new
    crash_torn t h fs stands =
        let same = same_log (journal_header slow) h slow.held fs old (has.stands (was t)) stands in
        subst (λ k. AddsTorn drawings k fs [] (es ∷ []) old new) same.0
        (subst (λ gs. AddsTorn drawings (journal_header slow) gs [] (es ∷ []) old new) same.1
        (torn t (has.stands (was t))))

    pub left_torn : IsSome new.contents
        → IsWithOrWithout (told old.contents) (Record (log_end slow) slow.held es) (told new.contents)
    left_torn t =
        let stands = has.stands (was t) in
        let left = (torn t stands).contents in
        with_or_without left.front left.back left.split left.read
      where
        with_or_without : (front back : List (List Event)) → es ∷ [] ≡ front ++ back
            → log (told new.contents) ≡ Ok (journal_header slow, (slow.held ++ []) ++ events_of front)
            → IsWithOrWithout (told old.contents) (Record (log_end slow) slow.held es) (told new.contents)
        with_or_without [] back split read =
            inl (read ∙ rw (append-nil, append-nil) (sym (has.stands (was t)).contents.read))
        with_or_without (f ∷ []) back split read =
            let first : f ≡ es = cc in
            inr (read ∙ rw (append-nil, append-nil, first)
            (sym (closes_put (journal_header slow) slow.held es (told old.contents) ruled
            (has.stands (was t)).contents).read))
        with_or_without (f ∷ g ∷ front) back split read = absurd cc
