-- Numbers, objects behind their ids and kept events are read and then judged.
use Rattle.std.proofs.Common.{◌≡◌, ℕ, ◌+◌, ◌<◌, ◌≤◌, Bool, true, false, cond, List, Option, None, Some, Result, Ok, Err}
use Rattle.std.proofs.Common.{refl}
use Rattle.std.specs.Prelude.{nat_le}
use Rattle.std.proofs.lemmas.Bool.{le-leb, lt-leb}
use Rattle.gd_base.specs.Results.{◌>>=◌}
use Rattle.gd_base.specs.Stamps.{Stamp}
use Rattle.gd_base.specs.declared.fault.ViewWhy.{ViewWhy}
use Rattle.gd_base.specs.declared.fault.ViewWhy.TheVariants.{Field, Order, Bound}
use Rattle.gd_events.specs.Events.{Event}
use Rattle.gd_events.specs.Sound.{is_above}
use Rattle.gd_grammar.specs.Drawings.{event_at}
use Rattle.gd_grammar.specs.Fields.{stamp_at, word_at}
use Rattle.gd_grammar.specs.Reading.{ranged}
use Rattle.gd_base.specs.Whole.{Object}
use Rattle.gd_outside.specs.Seen.{SeenSource}
use Rattle.gd_grammar.specs.ObjectBytes.{object_at}
use Rattle.gd_snapshots.specs.SnapshotBytes.{Views, in_view, misread_at, number_within, placed_at, kept_at}
use Rattle.gd_snapshots.specs.Snapshots.{Placed, is_bounded}
use Rattle.gd_snapshots.specs.declared.known.Known.{Known}
use Rattle.gd_handover.specs.Parts.{Part}
use Rattle.gd_handover.specs.Pieces.{kept_fault}
use Rattle.gd_handover.specs.declared.fault.SnapshotFault.{SnapshotFault}
use Rattle.gd_handover.specs.declared.fault.SnapshotFault.TheVariants.{Bad}
use Rattle.gd_handover.specs.declared.reader.Reader.{Reader}
use Rattle.gd_handover.proofs.LoopLemmas.{view-step}
use Rattle.gd_handover.proofs.PartLemmas.{standing-then, part-stops, part-standing, part-ok, part-refused}

-- ---- numbers

abbrev number : List ℕ → Views ℕ
number bytes = in_view (word_at bytes)

module _ (most before : ℕ) where
  abbrev whole-number : List ℕ → Views ℕ
  whole-number bytes = in_view (number_within most before bytes)

  abbrev judged-number : List ℕ → ℕ → List ℕ → Views ℕ
  judged-number bytes n rest = in_view (ranged (nat_le (before + n) most) n bytes rest)

  number-is : (bytes : List ℕ) → whole-number bytes ≡ (number bytes >>= λ n. judged-number bytes n.0 n.1)
  unfolding number_within
  number-is bytes = view-step (word_at bytes) _ (λ n. judged-number bytes n.0 n.1) (λ n. refl)

  pub number-stops : (e : SnapshotFault) {r s : Reader} {a b : SeenSource} → Part number (Err e) r s a b
      → Part whole-number (Err e) r s a b
  number-stops e p = part-stops number judged-number whole-number number-is e p

  pub number-high : (n : ℕ) {r s : Reader} {a b : SeenSource} → most < before + n → Part number (Ok n) r s a b
      → Part whole-number (Err (Bad r.place Field)) r s a b
  number-high n high p = part-refused number judged-number whole-number number-is n Field
      (λ bytes rest. rw (lt-leb _ _ high) refl) p

  pub number-read : (n : ℕ) {r s : Reader} {a b : SeenSource} → before + n ≤ most → Part number (Ok n) r s a b
      → Part whole-number (Ok n) r s a b
  number-read n few p = part-ok number judged-number whole-number number-is n n (λ bytes rest. rw (le-leb _ _ few) refl)
      p

-- ---- objects behind their ids

abbrev id : List ℕ → Views Stamp
id bytes = in_view (stamp_at bytes)

abbrev object : List ℕ → Views Object
object bytes = in_view (object_at None bytes)

abbrev behind-id : Stamp → List ℕ → Views Placed
behind-id id rest = object rest >>= λ object. Ok ((id, object.0), object.1)

module _ (last : Option Stamp) where
  abbrev judged-id : List ℕ → Stamp → List ℕ → Views Placed
  judged-id bytes id rest = cond (is_above last id) (behind-id id rest) (Err (misread_at Order bytes))

  placed-is : (bytes : List ℕ) → placed_at last bytes ≡ (id bytes >>= λ i. judged-id bytes i.0 i.1)
  unfolding placed_at
  placed-is bytes = refl

  pub placed-stops : (e : SnapshotFault) {r s : Reader} {a b : SeenSource} → Part id (Err e) r s a b
      → Part (placed_at last) (Err e) r s a b
  placed-stops e p = part-stops id judged-id (placed_at last) placed-is e p

  pub placed-low : (i : Stamp) {r s : Reader} {a b : SeenSource} → is_above last i ≡ false → Part id (Ok i) r s a b
      → Part (placed_at last) (Err (Bad r.place Order)) r s a b
  placed-low i low p = part-refused id judged-id (placed_at last) placed-is i Order (λ bytes rest. rw low refl) p

  -- an id above the last one, and what follows it
  placed-then : (i : Stamp) (result : Result Placed SnapshotFault) {r s t : Reader} {a b c : SeenSource}
      → is_above last i ≡ true → Part id (Ok i) r s a b → Part (behind-id i) result s t b c
      → Part (placed_at last) result r t a c
  placed-then i result above p q
      = standing-then (part-standing id judged-id (placed_at last) placed-is i (behind-id i)
      (λ bytes rest. rw above refl) p) result q

  pub placed-faulty : (i : Stamp) (e : SnapshotFault) {r s t : Reader} {a b c : SeenSource} → is_above last i ≡ true
      → Part id (Ok i) r s a b → Part object (Err e) s t b c → Part (placed_at last) (Err e) r t a c
  placed-faulty i e above p q
      = placed-then i (Err e) above p
      (part-stops object (λ _ o rest. Ok ((i, o), rest)) (behind-id i) (λ bytes. refl) e q)

  pub placed-read : (i : Stamp) (o : Object) {r s t : Reader} {a b c : SeenSource} → is_above last i ≡ true
      → Part id (Ok i) r s a b → Part object (Ok o) s t b c → Part (placed_at last) (Ok (i, o)) r t a c
  placed-read i o above p q
      = placed-then i (Ok (i, o)) above p
      (part-ok object (λ _ o rest. Ok ((i, o), rest)) (behind-id i) (λ bytes. refl) o (i, o) (λ bytes rest. refl) q)

-- ---- kept events

abbrev event : List ℕ → Views Event
event bytes = in_view (event_at bytes)

-- the two tests of an event
abbrev by-tests : Bool → Bool → List ℕ → Event → List ℕ → Views Event
by-tests above bounded bytes e rest
    = cond above (cond bounded (Ok (e, rest)) (Err (misread_at Bound bytes))) (Err (misread_at Order bytes))

tests-refuse : (above bounded : Bool) (why : ViewWhy) (bytes : List ℕ) (e : Event) (rest : List ℕ)
    → cond above (cond bounded None (Some Bound)) (Some Order) ≡ Some why
    → by-tests above bounded bytes e rest ≡ Err (misread_at why bytes)
tests-refuse true true why bytes e rest h = absurd cc
tests-refuse true false why bytes e rest h = let k : Bound ≡ why = cc in rw k refl
tests-refuse false bounded why bytes e rest h = let k : Order ≡ why = cc in rw k refl

tests-pass : (above bounded : Bool) (bytes : List ℕ) (e : Event) (rest : List ℕ)
    → cond above (cond bounded None (Some Bound)) (Some Order) ≡ None
    → by-tests above bounded bytes e rest ≡ Ok (e, rest)
tests-pass true true bytes e rest h = refl
tests-pass true false bytes e rest h = absurd cc
tests-pass false bounded bytes e rest h = absurd cc

module _ (known : List Known) (last : Option Stamp) where
  abbrev judged-event : List ℕ → Event → List ℕ → Views Event
  judged-event bytes e rest = by-tests (is_above last e.stamp) (is_bounded known e) bytes e rest

  kept-is : (bytes : List ℕ) → kept_at known last bytes ≡ (event bytes >>= λ e. judged-event bytes e.0 e.1)
  unfolding kept_at
  kept-is bytes = refl

  pub kept-stops : (f : SnapshotFault) {r s : Reader} {a b : SeenSource} → Part event (Err f) r s a b
      → Part (kept_at known last) (Err f) r s a b
  kept-stops f p = part-stops event judged-event (kept_at known last) kept-is f p

  pub kept-refused : (e : Event) (why : ViewWhy) {r s : Reader} {a b : SeenSource} → kept_fault known last e ≡ Some why
      → Part event (Ok e) r s a b → Part (kept_at known last) (Err (Bad r.place why)) r s a b
  kept-refused e why h p
      = part-refused event judged-event (kept_at known last) kept-is e why
      (λ bytes rest. tests-refuse (is_above last e.stamp) (is_bounded known e) why bytes e rest h) p

  pub kept-read : (e : Event) {r s : Reader} {a b : SeenSource} → kept_fault known last e ≡ None
      → Part event (Ok e) r s a b → Part (kept_at known last) (Ok e) r s a b
  kept-read e h p = part-ok event judged-event (kept_at known last) kept-is e e
      (λ bytes rest. tests-pass (is_above last e.stamp) (is_bounded known e) bytes e rest h) p
