-- The check behind an event of a log: what is read there, whatever follows.
use Rattle.std.proofs.Common.{◌≡◌, ◌∙◌, ◌⊎◌, inl, inr, ℕ, ◌+◌, ◌≤◌, Bool, true, false, cond, eqb, List, [], ◌++◌}
use Rattle.std.proofs.Common.{length, Result, Ok, Err, refl, sym, ap, ap₂, subst, eqb-true, arith}
use Rattle.std.proofs.lemmas.List.{length-append}
use Rattle.gd_base.specs.Results.{◌>>=◌}
use Rattle.gd_base.specs.declared.fault.FieldFault.{FieldFault}
use Rattle.gd_base.specs.declared.fault.LogWhy.TheVariants.{Check, Short}
use Rattle.gd_base.specs.declared.version.Version.{Version}
use Rattle.gd_events.specs.Events.{EventValue}
use Rattle.gd_grammar.specs.Chains.{check_with}
use Rattle.gd_grammar.specs.FieldBytes.{AreBytes, check_bytes}
use Rattle.gd_grammar.specs.Fields.{check_word_at}
use Rattle.gd_grammar.specs.Kinds.{LogKind}
use Rattle.gd_grammar.specs.LogBytes.{LogMisread, log_why, in_log, checked}
use Rattle.gd_grammar.specs.Reading.{Reads}
use Rattle.gd_grammar.specs.Steady.{IsEnd}
use Rattle.gd_grammar.specs.Versions.{has_checks}
use Rattle.gd_grammar.proofs.ExactFields.{exact_check_word}
use Rattle.gd_grammar.proofs.Steady.{bind_ok, passed}
use Rattle.gd_grammar.proofs.SteadyFields.{Steady-check-word}
use Rattle.gd_logs.specs.Steps.{behind_check}
use Rattle.gd_logs.specs.Written.{fault_by}

-- the same fault of a log with more bytes behind it
abbrev pub farther_on : LogMisread → List ℕ → LogMisread
farther_on f more = record { why = f.why; left = f.left + length more }

pub in_log-ok : {A : Type 0} (r : Result A FieldFault) (x : A) → in_log r ≡ Ok x → r ≡ Ok x
in_log-ok (Ok y) x e = let same : y ≡ x = cc in rw same refl
in_log-ok (Err f) x e = absurd cc

abbrev left_of_check : List ℕ → Result (List ℕ) LogMisread
left_of_check rest = Ok rest

abbrev check_fault : ℕ → Result (List ℕ) LogMisread
check_fault left = Err (fault_by Check left)

-- where the version has checks
abbrev pub word_then : ℕ → List ℕ → Result (List ℕ) LogMisread
word_then check bytes =
    in_log (check_word_at bytes) >>= λ word. cond (eqb word.0 check) (left_of_check word.1) (check_fault (length bytes))

-- what a log of that version has behind an event with that check
abbrev pub spelled_check : Version → ℕ → List ℕ
spelled_check version check = cond (has_checks version) (check_bytes check) []

-- ---- what was read

-- the word that was read is the check, and this was left behind it
record WordRead (check : ℕ) (bytes rest : List ℕ) : Type 0 where
  word : ℕ × List ℕ
  read : check_word_at bytes ≡ Ok word
  same : eqb word.0 check ≡ true
  left : word.1 ≡ rest

word-read : (check : ℕ) (bytes rest : List ℕ) → word_then check bytes ≡ Ok rest → WordRead check bytes rest
word-read check bytes rest e =
    let word = bind_ok (in_log (check_word_at bytes)) _ rest e in
    let right = passed (eqb word.0.0 check) word.0.1 rest (fault_by Check (length bytes)) word.2 in
    record { word = word.0; read = in_log-ok (check_word_at bytes) word.0 word.1; same = right.0; left = right.1 }

-- the check was spelled there
pub check-taken : (version : Version) (check : ℕ) (bytes rest : List ℕ) → AreBytes bytes
    → behind_check version check bytes ≡ Ok rest → bytes ≡ spelled_check version check ++ rest
unfolding behind_check
check-taken version check bytes rest are e = by (has_checks version) e where
  by : (b : Bool) → cond b (word_then check bytes) (left_of_check bytes) ≡ Ok rest
      → bytes ≡ cond b (check_bytes check) [] ++ rest
  by true q =
      let r = word-read check bytes rest q in
      (exact_check_word.taken bytes r.word are r.read).text.is
      ∙ ap₂ (λ (c : ℕ) (l : List ℕ). check_bytes c ++ l) (eqb-true r.word.0 check r.same) r.left
  by false q = let same : bytes ≡ rest = cc in same

-- what is left is the end of the bytes
pub check-end : (version : Version) (check : ℕ) (bytes rest : List ℕ) → behind_check version check bytes ≡ Ok rest
    → IsEnd bytes rest
unfolding behind_check
check-end version check bytes rest e = by (has_checks version) e where
  by : (b : Bool) → cond b (word_then check bytes) (left_of_check bytes) ≡ Ok rest → IsEnd bytes rest
  by true q =
      let r = word-read check bytes rest q in
      subst (IsEnd bytes) r.left (Steady-check-word.ok bytes r.word r.read).suffix
  by false q = let same : bytes ≡ rest = cc in (0, omega arith, sym same)

-- the place of a fault is in the bytes
pub check-inside : (version : Version) (check : ℕ) (bytes : List ℕ) (f : LogMisread)
    → behind_check version check bytes ≡ Err f → f.left ≤ length bytes
unfolding behind_check
check-inside version check bytes f e = by (has_checks version) e where
  by_test : (t : Bool) (rest : List ℕ) → cond t (left_of_check rest) (check_fault (length bytes)) ≡ Err f
      → f.left ≤ length bytes
  by_test true rest q = absurd cc
  by_test false rest q =
      let same : fault_by Check (length bytes) ≡ f = cc in
      subst (λ (g : LogMisread). g.left ≤ length bytes) same (omega arith)

  by_word : (r : Reads ℕ) → check_word_at bytes ≡ r
      → (in_log r >>= λ word. cond (eqb word.0 check) (left_of_check word.1) (check_fault (length bytes))) ≡ Err f
      → f.left ≤ length bytes
  by_word (Ok w) q k = by_test (eqb w.0 check) w.1 k
  by_word (Err g) q k =
      let same : fault_by (log_why g.why) g.left ≡ f = cc in
      subst (λ (m : LogMisread). m.left ≤ length bytes) same (Steady-check-word.err bytes g q).inside

  by : (b : Bool) → cond b (word_then check bytes) (left_of_check bytes) ≡ Err f → f.left ≤ length bytes
  by true q = by_word (check_word_at bytes) refl q
  by false q = absurd cc

-- ---- with more bytes behind it

-- the same is read
pub check-more : (version : Version) (check : ℕ) (bytes rest more : List ℕ) → behind_check version check bytes ≡ Ok rest
    → behind_check version check (bytes ++ more) ≡ Ok (rest ++ more)
unfolding behind_check
check-more version check bytes rest more e = by (has_checks version) e where
  by : (b : Bool) → cond b (word_then check bytes) (left_of_check bytes) ≡ Ok rest
      → cond b (word_then check (bytes ++ more)) (left_of_check (bytes ++ more)) ≡ left_of_check (rest ++ more)
  by true q =
      let r = word-read check bytes rest q in
      rw ((Steady-check-word.ok bytes r.word r.read).more more, r.same)
      (ap (λ (l : List ℕ). left_of_check (l ++ more)) r.left)
  by false q = let same : bytes ≡ rest = cc in ap (λ (l : List ℕ). left_of_check (l ++ more)) same

-- a fault is the same one with more bytes behind it, or bytes are missing
abbrev pub IsFarther : {A : Type 0} → List ℕ → Result A LogMisread → LogMisread → Type 0
IsFarther more r f = (f.why ≡ Short) ⊎ (r ≡ Err (farther_on f more))

-- and so is each fault
pub check-farther : (version : Version) (check : ℕ) (bytes more : List ℕ) (f : LogMisread)
    → behind_check version check bytes ≡ Err f → IsFarther more (behind_check version check (bytes ++ more)) f
unfolding behind_check
check-farther version check bytes more f e = by (has_checks version) e where
  by_test : (w : ℕ × List ℕ) → check_word_at bytes ≡ Ok w → (t : Bool) → eqb w.0 check ≡ t
      → cond t (left_of_check w.1) (check_fault (length bytes)) ≡ Err f
      → IsFarther more (word_then check (bytes ++ more)) f
  by_test w q true t k = absurd cc
  by_test w q false t k =
      let same : fault_by Check (length bytes) ≡ f = cc in
      subst (IsFarther more (word_then check (bytes ++ more))) same
      (inr (rw ((Steady-check-word.ok bytes w q).more more, t) (ap check_fault (length-append bytes more))))

  by_word : (r : Reads ℕ) → check_word_at bytes ≡ r
      → (in_log r >>= λ word. cond (eqb word.0 check) (left_of_check word.1) (check_fault (length bytes))) ≡ Err f
      → IsFarther more (word_then check (bytes ++ more)) f
  by_word (Ok w) q k = by_test w q (eqb w.0 check) refl k
  by_word (Err g) q k =
      let same : fault_by (log_why g.why) g.left ≡ f = cc in
      subst (IsFarther more (word_then check (bytes ++ more))) same
      (elim ((Steady-check-word.err bytes g q).more more) [ inl s ↦ inl (ap log_why s) | inr s ↦ inr (rw s refl) ])

  by : (b : Bool) → cond b (word_then check bytes) (left_of_check bytes) ≡ Err f
      → IsFarther more (cond b (word_then check (bytes ++ more)) (left_of_check (bytes ++ more))) f
  by true q = by_word (check_word_at bytes) refl q
  by false q = absurd cc

-- ---- in a record

-- the event, and what is left behind its check
abbrev pub event_then : {O : Type 0} → EventValue O → Result (List ℕ) LogMisread
    → Result (EventValue O × List ℕ) LogMisread
event_then e r = r >>= λ rest. Ok (e, rest)

abbrev event_left : {O : Type 0} → EventValue O × List ℕ → Result (EventValue O × List ℕ) LogMisread
event_left x = Ok x

abbrev event_fault : {O : Type 0} → ℕ → Result (EventValue O × List ℕ) LogMisread
event_fault left = Err (fault_by Check left)

module _ {O : Type 0} (kind : LogKind O) where
  -- an event with its check is what stands behind the check
  pub checked-behind : (version : Version) (seen : List (EventValue O)) (x : EventValue O × List ℕ)
      → checked kind version seen x ≡ event_then x.0 (behind_check version (check_with kind seen x.0) x.1)
  unfolding behind_check
  checked-behind version seen x = by (has_checks version) (check_word_at x.1) where
    by_test : (t : Bool) (rest : List ℕ)
        → cond t (event_left (x.0, rest)) (event_fault (length x.1))
        ≡ event_then x.0 (cond t (left_of_check rest) (check_fault (length x.1)))
    by_test true rest = refl
    by_test false rest = refl

    by : (b : Bool) (r : Reads ℕ)
        → cond b (in_log r >>= λ c. cond (eqb c.0 (check_with kind seen x.0)) (event_left (x.0, c.1))
        (event_fault (length x.1))) (event_left x)
        ≡ event_then x.0 (cond b (in_log r >>= λ c. cond (eqb c.0 (check_with kind seen x.0)) (left_of_check c.1)
        (check_fault (length x.1))) (left_of_check x.1))
    by true (Ok w) = by_test (eqb w.0 (check_with kind seen x.0)) w.1
    by true (Err f) = refl
    by false r = refl
