-- How much the arrival of events undoes, and what it comes to one event after another.
use Rattle.std.proofs.Common.{◌≡◌, ℕ, ◌+◌, ◌*◌, ◌≤◌, Bool, true, false, cond, List, [], ◌∷◌, ◌++◌, length}
use Rattle.std.proofs.Common.{refl, sym, ap, ◌∙◌, append_assoc, arith}
use Rattle.std.proofs.lemmas.List.{append-nil, length-map}
use Rattle.gd_base.specs.declared.ranges.TheConstants.{SESSION_EVENTS}
use Rattle.gd_events.specs.Events.{EventValue}
use Rattle.gd_repair.specs.Repair.{Stamped, outcome, outcome_by, closure_from, closure, is_free}
use Rattle.gd_repair.specs.Repair.{Outcome}
use Rattle.gd_repair.specs.Repair.Outcome.{applied, dropped, reworked}
use Rattle.gd_history.specs.Entries.{stamp_of}
use Rattle.gd_history.specs.Histories.{arrival_of}
use Rattle.gd_history.specs.declared.arrival.Arrival.{Arrival}
use Rattle.gd_history.specs.declared.arrival.Arrival.TheVariants.{Applied, Dropped, Reworked}
use Rattle.gd_arrivals.specs.Arrivals.{outcome_of}
use Rattle.gd_arrivals.specs.Tally.{Tally, no_tally, tallied, tally_from, tally}
use Rattle.gd_arriving.specs.Arriving.{counted, undone_in}

-- ---- no more is undone than stands behind

shorter_closure : {E : Type 0} (t : Bool) (f : E) (xs ys fs : List E) → length xs ≤ length fs → length ys ≤ length fs
    → length (cond t xs (f ∷ ys)) ≤ length (f ∷ fs)
shorter_closure true f xs ys fs h k = omega arith
shorter_closure false f xs ys fs h k = omega arith

length-closure : {E : Type 0} (independent : E → E → Bool) (e : E) (cs fs : List E)
    → length (closure_from independent e cs fs) ≤ length fs
length-closure independent e cs [] = omega arith
length-closure independent e cs (f ∷ fs) =
    shorter_closure (is_free independent (e ∷ cs) f) f (closure_from independent e cs fs)
    (closure_from independent e (cs ++ f ∷ []) fs) fs
    (length-closure independent e cs fs) (length-closure independent e (cs ++ f ∷ []) fs)

module _ {O : Type 0} (independent covers : Stamped O → Stamped O → Bool) (e : Stamped O) where
  undone_where : (t : Bool) (c : Stamped O) (cs : List (Stamped O)) (n : ℕ) → length (c ∷ cs) ≤ n
      → undone_in (arrival_of (cond t (dropped c) (reworked (c ∷ cs)))) ≤ n
  undone_where true c cs n h = omega arith
  undone_where false c cs n h = omega (arith, h, length-map (c ∷ cs) stamp_of)

  undone_by : (cs : List (Stamped O)) (n : ℕ) → length cs ≤ n → undone_in (arrival_of (outcome_by covers e cs)) ≤ n
  undone_by [] n h = omega arith
  undone_by (c ∷ cs) n h = undone_where (covers c e) c cs n h

  pub undone_most : (fs : List (Stamped O)) → undone_in (arrival_of (outcome independent covers e fs)) ≤ length fs
  undone_most fs = undone_by (closure independent e fs) (length fs) (length-closure independent e [] fs)

-- ---- one event more

-- an arrival is counted as the outcome that it tells
counted-outcome : {O : Type 0} (t : Tally) (o : Outcome (Stamped O)) → counted t (arrival_of o) ≡ tallied t o
counted-outcome t applied = refl
counted-outcome t (dropped c) = refl
counted-outcome t (reworked cs)
    = ap (λ (n : ℕ). record t { reworked = t.reworked + 1; undone = t.undone + n }) (length-map cs stamp_of)

counts-one : (t : Tally) (a : Arrival)
    → (counted t a).applied + (counted t a).dropped + (counted t a).reworked ≡ t.applied + t.dropped + t.reworked + 1
counts-one t Applied = omega arith
counts-one t (Dropped by) = omega arith
counts-one t (Reworked undone) = omega arith

undoes-one : (t : Tally) (a : Arrival) → (counted t a).undone ≡ t.undone + undone_in a
undoes-one t Applied = omega arith
undoes-one t (Dropped by) = omega arith
undoes-one t (Reworked undone) = refl

-- what came of these events, all of them counted, with no more undone than can be
pub record Tallied {O : Type 0} (independent covers : Stamped O → Stamped O → Bool) (done : List (EventValue O))
    (t : Tally) : Type 0 where
  pub is : t ≡ tally independent covers done
  pub counted : t.applied + t.dropped + t.reworked ≡ length done
  pub undone : t.undone ≤ SESSION_EVENTS * length done

module _ {O : Type 0} (independent covers : Stamped O → Stamped O → Bool) where
  tally-push : (t : Tally) (held es : List (EventValue O)) (e : EventValue O)
      → tally_from independent covers t held (es ++ e ∷ [])
      ≡ tallied (tally_from independent covers t held es) (outcome_of independent covers (held ++ es) e)
  unfolding tally_from
  tally-push t held [] e = ap (λ h. tallied t (outcome_of independent covers h e)) (sym (append-nil held))
  tally-push t held (f ∷ fs) e =
      let next = tallied t (outcome_of independent covers held f) in
      tally-push next (held ++ f ∷ []) fs e
      ∙ ap (λ h. tallied (tally_from independent covers next (held ++ f ∷ []) fs) (outcome_of independent covers h e))
      (append_assoc held (f ∷ []) fs)

  pub tallied_none : Tallied independent covers [] no_tally
  unfolding tally_from
  tallied_none = record { is = refl; counted = omega arith; undone = omega arith }

  pub tallied_more : (done : List (EventValue O)) (t new : Tally) (e : EventValue O) (a : Arrival)
      → Tallied independent covers done t
      → a ≡ arrival_of (outcome_of independent covers done e) → undone_in a ≤ SESSION_EVENTS → new ≡ counted t a
      → length (done ++ e ∷ []) ≡ length done + 1
      → Tallied independent covers (done ++ e ∷ []) new
  tallied_more done t new e a h is most one long = record {
    is =
        one ∙ (λ i. counted (h.is i) (is i))
        ∙ counted-outcome (tally independent covers done) (outcome_of independent covers done e)
        ∙ sym (tally-push no_tally [] done e);
    counted = omega (
      arith,
      ap (λ (x : Tally). x.applied + x.dropped + x.reworked) one,
      counts-one t a,
      h.counted,
      long,
    );
    undone = omega (arith, ap (λ (x : Tally). x.undone) one, undoes-one t a, h.undone, most, long);
  }
