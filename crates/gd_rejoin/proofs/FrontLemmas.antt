-- A log whose bytes go on: where a fault was found in its front, other than that bytes are missing, it is the fault of
-- the whole.
use Rattle.std.proofs.Common.{◌≡◌, ◌≢◌, ℕ, zero, suc, ◌+◌, ◌≤◌, ◌⊎◌, Bool, true, false, cond, eqb, List, [], ◌∷◌, ◌++◌}
use Rattle.std.proofs.Common.{length, refl, sym, ap, ◌∙◌, append_assoc, arith, inl, inr}
use Rattle.std.specs.Prelude.{Option, Some, None, option_map, Result, Ok, Err}
use Rattle.std.proofs.lemmas.List.{append-nil, length-append}
use Rattle.gd_base.specs.declared.fault.LogWhy.{LogWhy}
use Rattle.gd_base.specs.declared.fault.LogWhy.TheVariants.{Short, Magic, Version, Field, FutureId, MemberOrder, NoSite}
use Rattle.gd_base.specs.declared.fault.LogWhy.TheVariants.{Turn, Backdated, Check, Behind}
use Rattle.gd_base.specs.Results.{◌>>=◌}
use Rattle.gd_base.specs.Stamps.{Stamp}
use Rattle.gd_base.specs.declared.version.Version.{Version as LogVersion}
use Rattle.gd_events.specs.Events.{EventValue}
use Rattle.gd_grammar.specs.Chains.{check_with}
use Rattle.gd_grammar.specs.Closing.{Closes}
use Rattle.gd_grammar.specs.HeaderBytes.{Header, header_at, header_bytes}
use Rattle.gd_grammar.specs.KindLaws.{KindLaws}
use Rattle.gd_grammar.specs.Kinds.{LogKind, event_at}
use Rattle.gd_grammar.specs.LogBytes.{LogMisread, log_why, left_of, in_log, turn_fault, gate, gated_bytes, is_closed}
use Rattle.gd_grammar.specs.LogBytes.{record_at, step_at, events_at, log}
use Rattle.gd_grammar.specs.Reading.{Reads}
use Rattle.gd_grammar.proofs.EventsLemmas.{events-some, events-none, events-err}
use Rattle.gd_grammar.proofs.SteadyFields.{Steady-event, Steady-header}
use Rattle.gd_logs.specs.Logs.{LogIs}
use Rattle.gd_logs.specs.Steps.{Step, IsFault, behind_check}
use Rattle.gd_logs.specs.Written.{IsRuled}
use Rattle.gd_logs.specs.declared.log.ReadError.{ReadError}
use Rattle.gd_logs.specs.declared.log.ReadError.TheVariants.{Memory, Log}
use Rattle.gd_logs.specs.declared.stopped.LogFault.TheVariants.{Read, Bad}
use Rattle.gd_logs.proofs.CheckLemmas.{IsFarther, check-farther, check-more, event_then, farther_on}
use Rattle.gd_logs.proofs.ClosingLemmas.{closes-behind}
use Rattle.gd_logs.proofs.EventLemmas.{log_from, log-start, from-some, from-err}
use Rattle.gd_logs.proofs.RecordLemmas.{nine_bytes, record-next, record-refused, record-faulty}
use Rattle.gd_rejoin.specs.Faults.{fault_of, is_short, is_short_why}

-- the same with more bytes behind it, `on` it, unless bytes are missing
abbrev Stays : {B : Type 0} → (B → B) → List ℕ → Result B LogMisread → Result B LogMisread → Type 0
Stays on more (Ok x) s = s ≡ Ok (on x)
Stays on more (Err f) s = f.why ≢ Short → s ≡ Err (farther_on f more)

-- bytes that are left, with more behind them
abbrev longer : {A : Type 0} → List ℕ → A × List ℕ → A × List ℕ
longer more x = (x.0, x.1 ++ more)

abbrev refused : LogWhy → ℕ → LogMisread
refused why left = record { why = why; left = left }

abbrev misread : {B : Type 0} → LogMisread → Result B LogMisread
misread f = Err f

abbrev log_of : {O : Type 0} → Header → List (EventValue O) → Result (Header × List (EventValue O)) LogMisread
log_of head events = Ok (head, events)

short-or-not : (why : LogWhy) → (why ≡ Short) ⊎ (why ≢ Short)
short-or-not Short = inl refl
short-or-not Magic = inr (λ e. cc)
short-or-not Version = inr (λ e. cc)
short-or-not Field = inr (λ e. cc)
short-or-not FutureId = inr (λ e. cc)
short-or-not MemberOrder = inr (λ e. cc)
short-or-not NoSite = inr (λ e. cc)
short-or-not Turn = inr (λ e. cc)
short-or-not Backdated = inr (λ e. cc)
short-or-not Check = inr (λ e. cc)
short-or-not Behind = inr (λ e. cc)

left-more : (why : LogWhy) (m n : ℕ) → 9 ≤ m → left_of why (m + n) ≡ left_of why m + n
left-more NoSite m n h = omega arith
left-more Turn m n h = omega arith
left-more other m n h = refl

module _ {O : Type 0} {IsOp : Stamp → O → Type 0} {kind : LogKind O} (laws : KindLaws IsOp kind) where
  -- an event, and the check behind it
  both-stay : (e : EventValue O) (check : ℕ) (version : LogVersion) (behind more : List ℕ)
      (r : Result (List ℕ) LogMisread) → behind_check version check behind ≡ r
      → Stays (longer more) more (event_then e r) (event_then e (behind_check version check (behind ++ more)))
  both-stay e check version behind more (Ok rest) q = ap (event_then e) (check-more version check behind rest more q)
  both-stay e check version behind more (Err f) q = λ there. elim (check-farther version check behind more f q) [
    | inl s ↦ absurd (there s)
    | inr s ↦ ap (event_then e) s
  ]

  record-stays : (head : Header) (seen : List (EventValue O)) (bytes more : List ℕ)
      → Stays (longer more) more (record_at kind head seen bytes) (record_at kind head seen (bytes ++ more))
  record-stays head seen bytes more = by_event (event_at kind head.version bytes) refl where
    by_turn : (y : EventValue O × List ℕ) → event_at kind head.version bytes ≡ Ok y → (t : Option LogWhy)
        → turn_fault head.n seen y.0 ≡ t
        → Stays (longer more) more (record_at kind head seen bytes) (record_at kind head seen (bytes ++ more))
    by_turn y q None t =
        let check = check_with kind seen y.0 in
        rw (
          record-next laws head seen bytes y q t,
          record-next laws head seen (bytes ++ more) (longer more y)
              (((Steady-event laws head.version).ok bytes y q).more more) t,
        )
        (both-stay y.0 check head.version y.1 more (behind_check head.version check y.1) refl)
    by_turn y q (Some why) t = rw (record-refused laws head seen bytes y why q t) (λ _.
        record-refused laws head seen (bytes ++ more) (longer more y) why
        (((Steady-event laws head.version).ok bytes y q).more more) t
        ∙ ap (λ (left : ℕ). misread (refused why left))
        (ap (λ (m : ℕ). left_of why m) (length-append bytes more)
        ∙ left-more why (length bytes) (length more) (nine_bytes laws head.version bytes y q)))

    by_event : (r : Reads (EventValue O)) → event_at kind head.version bytes ≡ r
        → Stays (longer more) more (record_at kind head seen bytes) (record_at kind head seen (bytes ++ more))
    by_event (Ok y) q = by_turn y q (turn_fault head.n seen y.0) refl
    by_event (Err g) q = rw (record-faulty laws head seen bytes g q)
        (λ there. elim (((Steady-event laws head.version).err bytes g q).more more) [
          | inl s ↦ absurd (there (ap log_why s))
          | inr s ↦ record-faulty laws head seen (bytes ++ more) (record { why = g.why; left = g.left + length more }) s
        ])

  step-stays : (head : Header) (seen : List (EventValue O)) (b : ℕ) (bytes more : List ℕ)
      → Stays (option_map (longer more)) more (step_at kind head seen (b ∷ bytes))
      (step_at kind head seen (b ∷ bytes ++ more))
  unfolding step_at
  step-stays head seen b bytes more =
      by (eqb b gate) (is_closed head.version b) (record_at kind head seen bytes)
      (record-stays head seen bytes more) where
        by : (open_gate closed : Bool) (r : Result (EventValue O × List ℕ) LogMisread)
            → Stays (longer more) more r (record_at kind head seen (bytes ++ more))
            → Stays (option_map (longer more)) more
            (cond open_gate (r >>= λ e. Ok (Some e))
            (cond closed (Ok None) (misread (refused Behind (length (b ∷ bytes))))))
            (cond open_gate (record_at kind head seen (bytes ++ more) >>= λ e. Ok (Some e))
            (cond closed (Ok None) (misread (refused Behind (length (b ∷ (bytes ++ more)))))))
        by true closed (Ok y) k = rw k refl
        by true closed (Err g) k = λ there. rw (k there) refl
        by false true r k = refl
        by false false r k = λ there. ap (λ (left : ℕ). misread (refused Behind left)) (length-append (b ∷ bytes) more)

  -- the fault of the first of these steps that has one
  faulty-step : (k : ℕ) (head : Header) (seen : List (EventValue O)) (b : ℕ) (bytes more : List ℕ) (f : LogMisread)
      (s : Step O) → step_at kind head seen (b ∷ bytes) ≡ s
      → Stays (option_map (longer more)) more s (step_at kind head seen (b ∷ bytes ++ more))
      → events_at (suc k) kind head seen (b ∷ bytes) ≡ Err f → f.why ≢ Short
      → ((x : EventValue O × List ℕ) → events_at k kind head (seen ++ x.0 ∷ []) x.1 ≡ Err f
      → log_from kind head (seen ++ x.0 ∷ []) (x.1 ++ more) ≡ Err (farther_on f more))
      → log_from kind head seen (b ∷ bytes ++ more) ≡ Err (farther_on f more)
  faulty-step k head seen b bytes more f (Ok None) q stays e there on
      = absurd (let no = sym (events-none kind k head seen (b ∷ bytes) q) ∙ e in cc)
  faulty-step k head seen b bytes more f (Ok (Some x)) q stays e there on =
      from-some laws head seen (b ∷ bytes ++ more) (longer more x) stays
      ∙ on x (sym (events-some kind k head seen (b ∷ bytes) x q) ∙ e)
  faulty-step k head seen b bytes more f (Err g) q stays e there on =
      let same : g ≡ f = let k = sym (events-err kind k head seen (b ∷ bytes) g q) ∙ e in cc in
      from-err kind head seen (b ∷ bytes ++ more) (farther_on f more) (rw same at stays there)

  events-stay : (k : ℕ) (head : Header) (seen : List (EventValue O)) (bytes more : List ℕ) (f : LogMisread)
      → events_at k kind head seen bytes ≡ Err f → f.why ≢ Short
      → log_from kind head seen (bytes ++ more) ≡ Err (farther_on f more)
  unfolding events_at step_at
  events-stay zero head seen bytes more f e there = absurd cc
  events-stay (suc k) head seen [] more f e there = absurd cc
  events-stay (suc k) head seen (b ∷ bytes) more f e there =
      faulty-step k head seen b bytes more f _ refl (step-stays head seen b bytes more) e there
      (λ x g. events-stay k head (seen ++ x.0 ∷ []) x.1 more f g there)

  -- the fault of the header
  header-stays : (bytes more : List ℕ)
      → Stays (longer more) more (in_log (header_at kind bytes)) (in_log (header_at kind (bytes ++ more)))
  header-stays bytes more = by (header_at kind bytes) refl where
    by : (r : Reads Header) → header_at kind bytes ≡ r
        → Stays (longer more) more (in_log r) (in_log (header_at kind (bytes ++ more)))
    by (Ok y) q = rw (((Steady-header kind).ok bytes y q).more more) refl
    by (Err g) q = λ there. elim (((Steady-header kind).err bytes g q).more more) [
      | inl s ↦ absurd (there (ap log_why s))
      | inr s ↦ rw s refl
    ]

  header-faulty : (bytes : List ℕ) (f : LogMisread) → in_log (header_at kind bytes) ≡ Err f → log kind bytes ≡ Err f
  unfolding log
  header-faulty bytes f e = rw e refl

  -- the steps have the log's fault
  from-faulty : (head : Header) (seen : List (EventValue O)) (bytes : List ℕ) (f : LogMisread)
      → log_from kind head seen bytes ≡ Err f → events_at (suc (length bytes)) kind head seen bytes ≡ Err f
  unfolding log_from
  from-faulty head seen bytes f e = by (events_at (suc (length bytes)) kind head seen bytes) refl e where
    by : (r : Result (List (EventValue O)) LogMisread) → events_at (suc (length bytes)) kind head seen bytes ≡ r
        → (r >>= λ events. log_of head events) ≡ misread f → events_at (suc (length bytes)) kind head seen bytes ≡ Err f
    by (Ok events) q same = absurd cc
    by (Err g) q same = let k : g ≡ f = cc in q ∙ ap misread k

  log-stays : (bytes more : List ℕ) (f : LogMisread) → log kind bytes ≡ Err f → f.why ≢ Short
      → log kind (bytes ++ more) ≡ Err (farther_on f more)
  log-stays bytes more f e there = by (in_log (header_at kind bytes)) refl (header-stays bytes more) where
    by : (r : Result (Header × List ℕ) LogMisread) → in_log (header_at kind bytes) ≡ r
        → Stays (longer more) more r (in_log (header_at kind (bytes ++ more)))
        → log kind (bytes ++ more) ≡ Err (farther_on f more)
    by (Ok x) q stays =
        log-start laws (bytes ++ more) (x.1 ++ more) x.0 stays
        ∙ events-stay (suc (length x.1)) x.0 [] x.1 more f
        (from-faulty x.0 [] x.1 f (sym (log-start laws bytes x.1 x.0 q) ∙ e)) there
    by (Err g) q stays =
        let same : g ≡ f = let k = sym (header-faulty bytes g q) ∙ e in cc in
        header-faulty (bytes ++ more) (farther_on f more) (rw same at stays there)

  -- at its place
  fault-stays : (bytes more : List ℕ) (at : ℕ) (why : LogWhy) → why ≢ Short → IsFault (log kind bytes) bytes at why
      → IsFault (log kind (bytes ++ more)) (bytes ++ more) at why
  fault-stays bytes more at why there fault = record {
    left = fault.left + length more;
    is = log-stays bytes more (refused why fault.left) fault.is there;
    inside = omega (arith, fault.inside, length-append bytes more);
    there = omega (arith, fault.inside, fault.there, length-append bytes more);
  }

  -- a log with its closing gate is that log whatever follows
  pub closes-stays : (head : Header) (events : List (EventValue O)) (bytes more : List ℕ)
      → IsRuled IsOp kind head events → Closes kind head events bytes → Closes kind head events (bytes ++ more)
  closes-stays head events bytes more ruled closes =
      closes-behind laws head events bytes ruled closes (closes.rest ++ more) (bytes ++ more)
      (ap (λ (l : List ℕ). l ++ more) closes.is
      ∙ append_assoc (header_bytes kind head ++ gated_bytes kind head.version [] events)
      (closes.closing ∷ closes.rest) more)

  -- the reader's fault of a log is that of a longer one, unless bytes are missing
  pub error-stays : (error : ReadError) (bytes more : List ℕ) → (is_short (fault_of error) ≡ true → more ≡ [])
      → LogIs kind (Err error) bytes → LogIs kind (Err error) (bytes ++ more)
  error-stays Memory bytes more short fault = tt
  error-stays (Log Read) bytes more short fault = tt
  error-stays (Log (Bad at why)) bytes more short fault = elim (short-or-not why) [
    | inl e ↦ let none = short (ap is_short_why e) in rw (none, append-nil bytes) fault
    | inr ne ↦ fault-stays bytes more at why ne fault
  ]
