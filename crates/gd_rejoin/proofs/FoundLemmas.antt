-- What is found in the contents of a journal.
use Rattle.std.proofs.Common.{◌≡◌, ℕ, ◌+◌, Bool, true, false, not, ◌&&◌, nat_le, nat_lt, eqb, eq-eqb, eqb-true, List}
use Rattle.std.proofs.Common.{[], ◌∷◌, ◌++◌, length, take, drop, refl, sym, ap, subst, ◌∙◌, arith}
use denote.Enum.Bare.{sameb}
use Rattle.std.specs.Prelude.{Option, IsSome, Ok, Err}
use Rattle.std.proofs.lemmas.List.{drop_all}
use Rattle.std.proofs.lemmas.Bool.{and_parts}
use Rattle.std.proofs.lemmas.Bool.Decides.{nat_tests}
use Rattle.gd_base.specs.declared.fault.LogWhy.{LogWhy}
use Rattle.gd_base.specs.declared.fault.LogWhy.TheVariants.{Short}
use Rattle.gd_base.specs.contracts.version.Version.{the_type}
use Rattle.gd_base.specs.declared.version.Version.{Version}
use Rattle.gd_base.specs.declared.version.Version.TheVariants.{One, Two, Three}
use Rattle.gd_events.specs.Events.{Event}
use Rattle.gd_grammar.specs.Closing.{Closes, gate_place}
use Rattle.gd_grammar.specs.Drawings.{drawings, log}
use Rattle.gd_grammar.specs.HeaderBytes.{Header}
use Rattle.gd_logs.proofs.ClosingLemmas.{closes-long}
use Rattle.gd_logs.specs.Logs.{LogIs}
use Rattle.gd_logs.specs.Steps.{IsFault}
use Rattle.gd_logs.specs.declared.log.ReadError.{ReadError}
use Rattle.gd_logs.specs.declared.log.ReadError.TheVariants.{Memory, Log}
use Rattle.gd_logs.specs.declared.stopped.LogFault.TheVariants.{Read, Bad}
use Rattle.gd_reference.specs.Rejoin.{Found, Events, Faulty, Other, same_version, same_header, found, found_as}
use Rattle.gd_reference.specs.Rejoin.{found_log}
use Rattle.gd_outside.specs.Told.{told}
use Rattle.gd_rejoin.specs.Faults.{fault_of, is_short, IsFound, IsFoundOrFailed}
use Rattle.gd_rejoin.specs.LogFor.{IsLogFor}
use Rattle.gd_rejoin.specs.declared.fault.ResumeFault.{ResumeFault}
use Rattle.gd_rejoin.specs.declared.fault.ResumeFault.TheVariants as fault
use Rattle.gd_rejoin.proofs.ReadLemmas.{front-then}

-- ---- headers

not-false : (t : Bool) → not t ≡ false → t ≡ true
not-false true e = refl
not-false false e = cc

not-true : (t : Bool) → not t ≡ true → t ≡ false
not-true false e = refl
not-true true e = cc

same_version-equal : (a b : Version) → same_version a b ≡ true → a ≡ b
same_version-equal One One e = refl
same_version-equal Two Two e = refl
same_version-equal Three Three e = refl
same_version-equal a b e = cc

same_version-refl : (v : Version) → same_version v v ≡ true
same_version-refl One = refl
same_version-refl Two = refl
same_version-refl Three = refl

pub same_header-equal : (a b : Header) → same_header a b ≡ true → a ≡ b
same_header-equal a b e =
    let all = and_parts (same_version a.version b.version)
    (eqb a.session b.session && (eqb a.site b.site && eqb a.n b.n)) e in
    let numbers = and_parts (eqb a.session b.session) (eqb a.site b.site && eqb a.n b.n) all.1 in
    let last = and_parts (eqb a.site b.site) (eqb a.n b.n) numbers.1 in
    let version = same_version-equal a.version b.version all.0 in
    let session = eqb-true _ _ numbers.0 in
    let site = eqb-true _ _ last.0 in
    let n = eqb-true _ _ last.1 in
    λ i. record { version = version i; session = session i; site = site i; n = n i }

pub same_header-refl : (h : Header) → same_header h h ≡ true
same_header-refl h = rw
    (same_version-refl h.version, eq-eqb h.session h.session refl, eq-eqb h.site h.site refl, eq-eqb h.n h.n refl) refl

-- the flag of `==` at two headers
flag-version : (a b : Version) → sameb the_type a b ≡ same_version a b
flag-version One One = refl
flag-version Two Two = refl
flag-version Three Three = refl
flag-version a b = refl

abbrev pub header_flag : Header → Header → Bool
header_flag a b = sameb the_type a.version b.version && (eqb a.session b.session && (eqb a.site b.site && eqb a.n b.n))

flag-is : (a b : Header) → header_flag a b ≡ same_header a b
flag-is a b = rw (flag-version a.version b.version) refl

pub equal-by_flag : (a b : Header) → not (header_flag a b) ≡ false → a ≡ b
equal-by_flag a b e = same_header-equal a b (not-false (same_header a b) (rw (flag-is a b) at e))

pub differs-by_flag : (a b : Header) → not (header_flag a b) ≡ true → same_header a b ≡ false
differs-by_flag a b e = not-true (same_header a b) (rw (flag-is a b) at e)

-- ---- where the closing gate is, and where it isn't

past-gate : (h : Header) (events : List Event) (contents : List ℕ) → Closes drawings h events contents
    → nat_le (length contents) (gate_place drawings h.version events) ≡ false
past-gate h events contents closes =
    let long : length contents ≡ gate_place drawings h.version events + 1 + length closes.rest =
    closes-long drawings h events contents closes in
    grind (arith, nat_tests)

up-to-gate : (size place : ℕ) → nat_lt place size ≡ false → nat_le size place ≡ true
up-to-gate size place shut = grind (arith, nat_tests)

module _ (header : Header) (contents : List ℕ) where
  found-read : (h : Header) (events : List Event) → log contents ≡ Ok (h, events)
      → found header contents ≡ found_log header (length contents) h events
  unfolding found
  found-read h events read = ap (found_as header contents) read

  pub found-events : (events : List Event) → Closes drawings header events contents
      → found header contents ≡ Events events
  found-events events closes = found-read header events closes.read
      ∙ rw (past-gate header events contents closes, same_header-refl header) refl

  pub found-other : (h : Header) (events : List Event) → Closes drawings h events contents
      → same_header h header ≡ false → found header contents ≡ Other h
  found-other h events closes differs = found-read h events closes.read
      ∙ rw (past-gate h events contents closes, differs) refl

  pub found-short : (h : Header) (events : List Event) → log contents ≡ Ok (h, events)
      → nat_lt (gate_place drawings h.version events) (length contents) ≡ false
      → found header contents ≡ Faulty (length contents) Short
  found-short h events read shut =
      found-read h events read ∙ rw (up-to-gate (length contents) (gate_place drawings h.version events) shut) refl

  found-fault : (at : ℕ) (why : LogWhy) → IsFault (log contents) contents at why → found header contents ≡ Faulty at why
  unfolding found
  found-fault at why fault = ap (found_as header contents) fault.is
      ∙ ap (λ (place : ℕ). Faulty place why) (sym fault.there)

  -- where the log wasn't read to its end, and no read failed
  pub found-error : (error : ReadError) → (error ≡ Log Read → ⊥) → LogIs drawings (Err error) contents
      → IsFound (fault_of error) (found header contents)
  found-error Memory sure is = tt
  found-error (Log Read) sure is = sure refl
  found-error (Log (Bad at why)) sure is = found-fault at why is

-- ---- what a front of the contents gives

-- a fault that is found is one that is found or failed
found-or-failed : (fault : ResumeFault) (f : Found) → IsFound fault f → IsFoundOrFailed fault f
found-or-failed fault.Journal f is = absurd is
found-or-failed (fault.Bad at why) f is = is
found-or-failed (fault.Other h) f is = is
found-or-failed fault.NoMemory f is = tt

module _ (header : Header) (front : List ℕ) (contents : Option (List ℕ))
    (is_front : IsSome contents → front ≡ take (length front) (told contents)) where
  -- the log of a front is that of the contents
  pub log-by_front : (events : List Event) (place : ℕ) (chains : List ℕ)
      → ((more : List ℕ) → IsLogFor header events place chains (Unit {0}) (front ++ more))
      → IsLogFor header events place chains (IsSome contents) (told contents)
  log-by_front events place chains log = record {
    ruled = (log []).ruled;
    closes = λ is_told. subst (Closes drawings header events) (front-then front (told contents) (is_front is_told))
        ((log (drop (length front) (told contents))).closes tt);
    gate = (log []).gate;
    chained = (log []).chained;
    near = (log []).near;
  }

  -- and so is its fault, where no bytes are missing or nothing stands behind the front
  pub fault-by_front : (fault : ResumeFault)
      → ((more : List ℕ) → (is_short fault ≡ true → more ≡ []) → IsFound fault (found header (front ++ more)))
      → (IsSome contents → is_short fault ≡ true → drop (length front) (told contents) ≡ [])
      → IsSome contents → IsFoundOrFailed fault (found header (told contents))
  fault-by_front fault fails short is_told =
      found-or-failed fault (found header (told contents))
      (subst (λ (bytes : List ℕ). IsFound fault (found header bytes))
      (front-then front (told contents) (is_front is_told))
      (fails (drop (length front) (told contents)) (short is_told)))

  -- all of the contents are a front of them
  pub nothing-behind : (IsSome contents → front ≡ told contents) → IsSome contents
      → drop (length front) (told contents) ≡ []
  nothing-behind whole is_told
      = drop_all (length front) (told contents) (let same = ap length (whole is_told) in omega (arith, same))
