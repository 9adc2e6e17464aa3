-- A log is read as events that obey its rules, whoever wrote it.
use Rattle.std.proofs.Common.{◌≡◌, ◌==◌, ℕ, zero, suc, Bool, true, false, cond, List, [], ◌∷◌, ◌++◌, length, Option}
use Rattle.std.proofs.Common.{Some, None, Result, Ok, Err, refl, sym, ap, subst}
use Rattle.std.specs.Prelude.{IfOk}
use Rattle.gd_base.specs.Results.{◌>>=◌}
use Rattle.gd_base.specs.declared.fault.FieldFault.{FieldFault}
use Rattle.gd_base.specs.declared.fault.LogWhy.{LogWhy}
use Rattle.gd_base.specs.declared.fault.LogWhy.TheVariants as reason
use Rattle.gd_base.specs.declared.version.Version.{Version}
use Rattle.gd_events.specs.Events.{Event}
use Rattle.gd_events.specs.Sound.{IsOp, IsSound}
use Rattle.gd_grammar.proofs.DrawingKind.{drawing_laws}
use Rattle.gd_grammar.proofs.Exact.{back_bytes}
use Rattle.gd_grammar.proofs.ExactEvent.{exact_event}
use Rattle.gd_grammar.proofs.ExactFields.{exact_check_word}
use Rattle.gd_grammar.proofs.ExactHeader.{IsWordHeader, exact_header}
use Rattle.gd_grammar.proofs.LogRecords.{check-keeps}
use Rattle.gd_grammar.proofs.Steady.{bind_ok, passed}
use Rattle.gd_grammar.specs.Chains.{check_with}
use Rattle.gd_grammar.specs.Drawings.{drawings, log}
use Rattle.gd_grammar.specs.FieldBytes.{AreBytes, check_bytes}
use Rattle.gd_grammar.specs.Fields.{check_word_at}
use Rattle.gd_grammar.specs.HeaderBytes.{Header, header_at, header_bytes}
use Rattle.gd_grammar.specs.Kinds.{event_at, spelling}
use Rattle.gd_grammar.specs.LogBytes as logs
use Rattle.gd_grammar.specs.LogBytes.{LogMisread, checked, events_at, gate, in_log, is_closed, record_at, settled}
use Rattle.gd_grammar.specs.LogBytes.{step_at}
use Rattle.gd_grammar.specs.LogBytes.{turn_fault, with_check}
use Rattle.gd_grammar.specs.Versions.{has_checks}
use Rattle.gd_logs.proofs.CheckLemmas.{in_log-ok}
use Rattle.gd_logs.specs.Written.{AreNext, IsRuled, fault_by}
use Rattle.gd_reference.specs.Rejoin.{node_header}
use Rattle.gd_site.proofs.Ruled.{header, next_more}

ok_is : {A E : Type 0} (x : A) (r : Result A E) → r ≡ Ok x → IfOk r (λ z. z ≡ x)
ok_is x (Ok y) e = cc
ok_is x (Err fault) e = tt

settled_none : {A : Type 0} (why : Option LogWhy) (left : ℕ) (x y : A) → settled why left x ≡ Ok y
    → (why ≡ None) × (x ≡ y)
settled_none None left x y e = (refl, ok_is y (Ok x) e)
settled_none (Some why) left x y e = absurd cc

-- an event that was read behind these, and what is left
record Behind (h : Header) (seen : List Event) (x : Event × List ℕ) : Type 0 where
  sound : IsSound x.0
  turn : turn_fault h.n seen x.0 ≡ None
  rest : AreBytes x.1

-- what is left behind its check, where it has one
checked_rest : (version : Version) (seen : List Event) (y x : Event × List ℕ) → AreBytes y.1
    → checked drawings version seen y ≡ Ok x → AreBytes x.1
checked_rest version seen y x are e = go (has_checks version) e
  where
    go : (has : Bool) → cond has (with_check drawings seen y) (Ok y) ≡ Ok x → AreBytes x.1
    go true q =
        let word = bind_ok (in_log (check_word_at y.1)) _ x q in
        let right = passed (word.0.0 == check_with drawings seen y.0) (y.0, word.0.1) x _ word.2 in
        let took = exact_check_word.taken y.1 word.0 are (in_log-ok (check_word_at y.1) word.0 word.1) in
        subst (λ (z : Event × List ℕ). AreBytes z.1) right.1
        (back_bytes (check_bytes word.0.0) word.0.1 y.1 are took.text.is)
    go false q = let same : y ≡ x = cc in subst (λ (z : Event × List ℕ). AreBytes z.1) same are

module _ (h : Header) where
  record_behind : (seen : List Event) (bytes : List ℕ) (x : Event × List ℕ) → AreBytes bytes
      → record_at drawings h seen bytes ≡ Ok x → Behind h seen x
  unfolding record_at
  record_behind seen bytes x are e = go (event_at drawings h.version bytes) refl e
    where
      go : (r : Result (Event × List ℕ) FieldFault) → event_at drawings h.version bytes ≡ r
          → (in_log r >>= λ y. settled (turn_fault h.n seen y.0) (length bytes) y >>= λ y. checked drawings h.version
          seen y)
          ≡ Ok x → Behind h seen x
      go (Ok y) is k =
          let turned = bind_ok (settled (turn_fault h.n seen y.0) (length bytes) y) _ x k in
          let s = settled_none (turn_fault h.n seen y.0) (length bytes) y turned.0 turned.1 in
          let kept : checked drawings h.version seen y ≡ Ok x =
          subst (λ (z : Event × List ℕ). checked drawings h.version seen z ≡ Ok x) (sym s.1) turned.2 in
          let same = check-keeps drawings h.version seen y x kept in
          let took = (exact_event drawing_laws h.version).taken bytes y are is in
          let rest = back_bytes (spelling drawings y.0) y.1 bytes are took.text.is in
          record {
            sound = subst IsSound same took.sound.sound;
            turn = subst (λ (e : Event). turn_fault h.n seen e ≡ None) same s.0;
            rest = checked_rest h.version seen y x rest kept;
          }
      go (Err fault) is k = absurd cc

  step_behind : (seen : List Event) (bytes : List ℕ) (x : Event × List ℕ) → AreBytes bytes
      → step_at drawings h seen bytes ≡ Ok (Some x) → Behind h seen x
  unfolding step_at
  step_behind seen [] x are e = absurd cc
  step_behind seen (b ∷ bytes) x are e = go (b == gate) (is_closed h.version b) (record_at drawings h seen bytes) refl e
    where
      go : (open_gate closed : Bool) (r : Result (Event × List ℕ) LogMisread) → record_at drawings h seen bytes ≡ r
          → cond open_gate (r >>= λ y. Ok (Some y))
          (cond closed (Ok None) (Err (fault_by reason.Behind (length (b ∷ bytes)))))
          ≡ Ok (Some x) → Behind h seen x
      go true closed (Ok y) is k =
          let same : y ≡ x = cc in
          record_behind seen bytes x (back_bytes (b ∷ []) bytes (b ∷ bytes) are refl)
          (subst (λ z. record_at drawings h seen bytes ≡ Ok z) same is)
      go true closed (Err fault) is k = absurd cc
      go false true r is k = absurd cc
      go false false r is k = absurd cc

module _ (me sites session : ℕ) where
  abbrev h : Header
  h = header me sites session

  events_next : (k : ℕ) (seen : List Event) (bytes : List ℕ) (events : List Event) → AreBytes bytes
      → AreNext IsOp drawings h [] seen → events_at k drawings h seen bytes ≡ Ok events
      → AreNext IsOp drawings h [] events
  unfolding events_at
  events_next zero seen bytes events are next e = subst (AreNext IsOp drawings h []) (ok_is events (Ok seen) e) next
  events_next (suc k) seen bytes events are next e =
      go (λ x rest more q. events_next k (seen ++ x.0 ∷ []) x.1 events rest more q)
      (step_at drawings h seen bytes) refl e
    where
      go : ((x : Event × List ℕ) → AreBytes x.1 → AreNext IsOp drawings h [] (seen ++ x.0 ∷ [])
          → events_at k drawings h (seen ++ x.0 ∷ []) x.1 ≡ Ok events → AreNext IsOp drawings h [] events)
          → (r : Result (Option (Event × List ℕ)) LogMisread) → step_at drawings h seen bytes ≡ r
          → ◌>>=◌ {B = List Event} r
          (elim [ None ↦ Ok seen | Some x ↦ events_at k drawings h (seen ++ x.0 ∷ []) x.1 ]) ≡ Ok events
          → AreNext IsOp drawings h [] events
      go on (Ok None) is q = subst (AreNext IsOp drawings h []) (ok_is events (Ok seen) q) next
      go on (Ok (Some x)) is q =
          let behind = step_behind h seen bytes x are is in
          on x behind.rest (next_more me sites session [] seen x.0 next behind.sound behind.turn) q
      go on (Err fault) is q = absurd cc

  -- what the header and the rest are read as
  abbrev log_as : Result (Header × List ℕ) FieldFault → Result (Header × List Event) LogMisread
  log_as r = ◌>>=◌ {B = Header × List Event} (in_log r)
      (λ x. ◌>>=◌ {B = Header × List Event} (events_at (length x.1) drawings x.0 [] x.1) (λ es. Ok (x.0, es)))

  -- bytes that are read as a log of that header
  pub read_ruled : (contents : List ℕ) (events : List Event) → AreBytes contents
      → log contents ≡ Ok (node_header me sites session, events) → IsRuled IsOp drawings h events
  unfolding logs.log AreNext
  read_ruled contents events are e = go (header_at drawings contents) refl e
    where
      on : (x : Header × List ℕ) → header_at drawings contents ≡ Ok x → (r : Result (List Event) LogMisread)
          → events_at (length x.1) drawings x.0 [] x.1 ≡ r
          → ◌>>=◌ {B = Header × List Event} r (λ es. Ok (x.0, es)) ≡ Ok (h, events) → IsRuled IsOp drawings h events
      on x is (Err fault) was q = absurd cc
      on x is (Ok es) was q =
          let took = (exact_header drawings drawing_laws.magic).taken contents x are is in
          let both = ok_is (h, events) (Ok (x.0, es)) q in
          let head : x.0 ≡ h = ap (λ y. y.0) both in
          let same : es ≡ events = ap (λ y. y.1) both in
          let sound = subst (IsWordHeader drawings) head took.sound in
          let rest = back_bytes (header_bytes drawings x.0) x.1 contents are took.text.is in
          let read = subst (λ k. events_at (length x.1) drawings k [] x.1 ≡ Ok events) head
          (subst (λ l. events_at (length x.1) drawings x.0 [] x.1 ≡ Ok l) same was) in
          record {
            header = sound.is;
            session = sound.session;
            version = sound.version;
            next = events_next (length x.1) [] x.1 events rest tt read;
          }

      go : (r : Result (Header × List ℕ) FieldFault) → header_at drawings contents ≡ r → log_as r ≡ Ok (h, events)
          → IsRuled IsOp drawings h events
      go (Err fault) is q = absurd cc
      go (Ok x) is q = on x is (events_at (length x.1) drawings x.0 [] x.1) refl q
