-- An event of a log with its gate before it, and its check behind it, where the log's version has checks.
use Rattle.std.proofs.Common.{◌≡◌, ◌≢◌, ◌∙◌, ℕ, ◌<◌, ◌^◌, Bool, true, false, cond, List, [], ◌∷◌, ◌++◌, length, Ok, Err}
use Rattle.std.proofs.Common.{ap, refl, arith, append_assoc, eq-eqb, ne_eqb}
use Rattle.std.specs.Prelude.{None, Some, ◌==◌}
use Rattle.gd_base.specs.Stamps.{Stamp}
use Rattle.gd_base.specs.declared.fault.LogWhy.{LogWhy}
use Rattle.gd_base.specs.declared.fault.LogWhy.TheVariants.{Behind, Check}
use Rattle.gd_base.specs.declared.version.Version.{Version}
use Rattle.gd_base.specs.declared.version.Version.TheVariants.{One, Two, Three}
use Rattle.gd_check.specs.Checks.{check}
use Rattle.gd_events.specs.Events.{EventValue}
use Rattle.gd_grammar.specs.Chains.{check_with}
use Rattle.gd_grammar.specs.FieldBytes.{check_bytes}
use Rattle.gd_grammar.specs.Fields.{check_word_at}
use Rattle.gd_grammar.specs.HeaderBytes.{Header}
use Rattle.gd_grammar.specs.KindLaws.{KindLaws}
use Rattle.gd_grammar.specs.Kinds.{LogKind, FitsIn, spelling}
use Rattle.gd_grammar.specs.LogBytes.{in_log, turn_fault, left_of, with_check, checked, gate, is_closed, record_at}
use Rattle.gd_grammar.specs.LogBytes.{step_at, record_bytes}
use Rattle.gd_grammar.specs.Versions.{has_checks}
use Rattle.gd_grammar.proofs.ExactEvent.{exact_event}
use Rattle.gd_grammar.proofs.ExactFields.{exact_check_word}
use Rattle.gd_grammar.proofs.Steady.{bind_ok, passed}

pub check-lt : (c : ℕ) (bytes : List ℕ) → check c bytes < 2 ^ 32
check-lt c bytes = omega arith

module _ {O : Type 0} (kind : LogKind O) where
  -- an event, and the bytes behind it
  abbrev Found : Type 0
  Found = EventValue O × List ℕ

  -- ---- the check behind an event

  with_check-keeps : (seen : List (EventValue O)) (e x : Found) → with_check kind seen e ≡ Ok x → e.0 ≡ x.0
  with_check-keeps seen e x q =
      let word = bind_ok (in_log (check_word_at e.1)) _ x q in
      let right = passed (word.0.0 == check_with kind seen e.0) (e.0, word.0.1) x _ word.2 in
      ap (λ (y : Found). y.0) right.1

  -- the event is the one that was read
  pub check-keeps : (version : Version) (seen : List (EventValue O)) (e x : Found)
      → checked kind version seen e ≡ Ok x → e.0 ≡ x.0
  check-keeps version seen e x q = by (has_checks version) q where
    by : (b : Bool) → cond b (with_check kind seen e) (Ok e) ≡ Ok x → e.0 ≡ x.0
    by true r = with_check-keeps seen e x r
    by false r = let same : e ≡ x = cc in ap (λ (y : Found). y.0) same

  -- its check stands behind it
  check-there : (seen : List (EventValue O)) (e : EventValue O) (rest : List ℕ)
      → with_check kind seen (e, check_bytes (check_with kind seen e) ++ rest) ≡ Ok (e, rest)
  check-there seen e rest =
      let c = check_with kind seen e in
      rw (exact_check_word.written c rest (check-lt _ (spelling kind e)), eq-eqb c c refl) refl

  -- another number stands there
  check-other : (seen : List (EventValue O)) (e : EventValue O) (d : ℕ) (rest : List ℕ)
      → d < 2 ^ 32 → d ≢ check_with kind seen e
      → with_check kind seen (e, check_bytes d ++ rest)
      ≡ Err (record { why = Check; left = length (check_bytes d ++ rest) })
  check-other seen e d rest small other =
      rw (exact_check_word.written d rest small, ne_eqb d (check_with kind seen e) other) refl

  -- what a log has behind the event, by whether it has checks
  abbrev behind_by : Bool → List (EventValue O) → EventValue O → List ℕ
  behind_by has seen e = cond has (check_bytes (check_with kind seen e)) []

  -- the event, and that and more behind it
  abbrev found_by : Bool → List (EventValue O) → EventValue O → List ℕ → Found
  found_by has seen e rest = (e, behind_by has seen e ++ rest)

  checked-there : (version : Version) (seen : List (EventValue O)) (e : EventValue O) (rest : List ℕ)
      → checked kind version seen (found_by (has_checks version) seen e rest) ≡ Ok (e, rest)
  checked-there version seen e rest = by (has_checks version) where
    by : (has : Bool)
        → cond has (with_check kind seen (found_by has seen e rest)) (Ok (found_by has seen e rest)) ≡ Ok (e, rest)
    by true = check-there seen e rest
    by false = refl

  -- ---- gates

  -- one that isn't open, and counts as closed
  pub step-closed : (h : Header) (seen : List (EventValue O)) (b : ℕ) (bytes : List ℕ)
      → b ≢ gate → is_closed h.version b ≡ true → step_at kind h seen (b ∷ bytes) ≡ Ok None
  unfolding step_at
  step-closed h seen b bytes shut closed = rw (ne_eqb b gate shut, closed) refl

  -- one that is neither
  pub step-behind : (h : Header) (seen : List (EventValue O)) (b : ℕ) (bytes : List ℕ)
      → b ≢ gate → is_closed h.version b ≡ false
      → step_at kind h seen (b ∷ bytes) ≡ Err (record { why = Behind; left = length (b ∷ bytes) })
  unfolding step_at
  step-behind h seen b bytes shut neither = rw (ne_eqb b gate shut, neither) refl

-- the byte 0 is a closed gate in each version
pub zero-closed : (version : Version) → is_closed version 0 ≡ true
zero-closed One = refl
zero-closed Two = refl
zero-closed Three = refl

module _ {O : Type 0} {IsOp : Stamp → O → Type 0} {kind : LogKind O} (laws : KindLaws IsOp kind) where
  -- ---- an event with anything behind it

  -- it is next
  pub record-then : (h : Header) (seen : List (EventValue O)) (e : EventValue O) (behind : List ℕ)
      → FitsIn IsOp kind h.version e → turn_fault h.n seen e ≡ None
      → record_at kind h seen (spelling kind e ++ behind) ≡ checked kind h.version seen (e, behind)
  unfolding record_at
  record-then h seen e behind fits next = rw ((exact_event laws h.version).written e behind fits, next) refl

  -- it isn't next
  pub record-broken : (h : Header) (seen : List (EventValue O)) (e : EventValue O) (behind : List ℕ) (why : LogWhy)
      → FitsIn IsOp kind h.version e → turn_fault h.n seen e ≡ Some why
      → record_at kind h seen (spelling kind e ++ behind)
      ≡ Err (record { why = why; left = left_of why (length (spelling kind e ++ behind)) })
  unfolding record_at
  record-broken h seen e behind why fits broken =
      rw ((exact_event laws h.version).written e behind fits, broken) refl

  -- ---- an event as it stands in a log

  pub record-written : (h : Header) (seen : List (EventValue O)) (e : EventValue O) (rest : List ℕ)
      → FitsIn IsOp kind h.version e → turn_fault h.n seen e ≡ None
      → record_at kind h seen (record_bytes kind h.version seen e ++ rest) ≡ Ok (e, rest)
  record-written h seen e rest fits next =
      let behind = behind_by kind (has_checks h.version) seen e in
      ap (record_at kind h seen) (append_assoc (spelling kind e) behind rest)
      ∙ record-then h seen e (behind ++ rest) fits next ∙ checked-there kind h.version seen e rest

  -- behind its open gate
  pub step-written : (h : Header) (seen : List (EventValue O)) (e : EventValue O) (rest : List ℕ)
      → FitsIn IsOp kind h.version e → turn_fault h.n seen e ≡ None
      → step_at kind h seen (gate ∷ (record_bytes kind h.version seen e ++ rest)) ≡ Ok (Some (e, rest))
  unfolding step_at
  step-written h seen e rest fits next = rw (record-written h seen e rest fits next) refl

  -- with another check
  pub record-unchecked : (h : Header) (seen : List (EventValue O)) (e : EventValue O) (d : ℕ) (rest : List ℕ)
      → has_checks h.version ≡ true → FitsIn IsOp kind h.version e → turn_fault h.n seen e ≡ None
      → d < 2 ^ 32 → d ≢ check_with kind seen e
      → record_at kind h seen (spelling kind e ++ (check_bytes d ++ rest))
      ≡ Err (record { why = Check; left = length (check_bytes d ++ rest) })
  record-unchecked h seen e d rest has fits next small other =
      record-then h seen e (check_bytes d ++ rest) fits next ∙ rw has (check-other kind seen e d rest small other)
