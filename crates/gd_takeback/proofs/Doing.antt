-- Events of a gesture, made one after another: of edits, and of operations that take events back.
use Rattle.std.proofs.Common.{◌≡◌, ℕ, suc, ◌+◌, ◌≤◌, false, List, [], ◌∷◌, ◌++◌, length, Ok, nat_le, refl, sym, ap, ◌∙◌}
use Rattle.std.proofs.Common.{subst, arith, append_assoc, append-nil}
use Rattle.std.proofs.lemmas.Bool.Decides.{nat_tests}
use Rattle.gd_backs.proofs.NextEvents.{IsOwnNext, backs_of-push, clock-next, count-next, next_of, own_next}
use Rattle.gd_backs.proofs.NextEvents.{with_events-append}
use Rattle.gd_events.specs.Events.{Event}
use Rattle.gd_events.specs.Ops.{Op}
use Rattle.gd_protocol.proofs.Backs.{back-later}
use Rattle.gd_reference.specs.Judging.{edit_by, greatest_stamp_clock, most_own_events, with_event}
use Rattle.gd_reference.specs.SlowSite.{SlowSite, clock, own}
use Rattle.gd_reference.specs.TakeBack.{back_of, backs_of, done, with_events}
use Rattle.gd_site.specs.Sites.{StandsFor}
use Rattle.gd_takeback.specs.Making.{HasMade, Makes, Making, MayBecome}

-- ---- what a gesture has made

-- at first nothing
pub made-none : (slow : SlowSite) (m : Making) → StandsFor slow m.site → m.gesture.events ≡ [] → m.gesture.back ≡ []
    → HasMade slow [] m
unfolding with_events backs_of
made-none slow m stands events back = record { site = stands; events = events; back = back }

-- and then one more
pub made-more : (slow : SlowSite) (es : List Event) (e : Event) (old new : Making) → HasMade slow es old
    → Makes (with_events slow es) e old new → HasMade slow (es ++ e ∷ []) new
unfolding with_events
made-more slow es e old new made makes =
    record {
      site = subst (λ (x : SlowSite). StandsFor x new.site) (sym (with_events-append slow es (e ∷ []))) makes.site;
      events = makes.events ∙ ap (λ (l : List Event). l ++ e ∷ []) made.events;
      back =
          makes.back ∙ ap (λ (ops : List Op). back_of (with_events slow es) e ∷ ops) made.back
          ∙ sym (backs_of-push slow es e);
    }

-- ---- operations that may become events

module _ (slow : SlowSite) (op : Op) where
  -- the first of them may
  pub first-may : (ops : List Op) → MayBecome slow (op ∷ ops) → MayBecome slow (op ∷ [])
  first-may ops may =
      record {
        clocks = omega (arith, may.clocks);
        counts = omega (arith, may.counts);
        backs = (may.backs.0, tt);
      }

  -- and the others behind it
  pub others-may : (ops : List Op) → MayBecome slow (op ∷ ops) → MayBecome (with_event slow (next_of slow op)) ops
  others-may ops may =
      let e = next_of slow op in
      let next : IsOwnNext slow op e = own_next slow op e refl in
      let later = clock-next slow op e next in
      let counted = count-next slow op e next in
      record {
        clocks = omega (arith, may.clocks, later);
        counts = omega (arith, may.counts, counted);
        backs = back-later (clock slow) (clock (with_event slow e)) ops (omega (arith, later)) may.backs.1;
      }

  -- one that may is judged so
  pub next-is : MayBecome slow (op ∷ [])
      → edit_by slow.me (clock slow) (length (own slow)) (Ok op) ≡ Ok (next_of slow op)
  next-is may =
      let clocks : nat_le greatest_stamp_clock (clock slow)
      ≡ false = below greatest_stamp_clock (clock slow) may.clocks in
      let counts : nat_le most_own_events (length (own slow))
      ≡ false = below most_own_events (length (own slow)) may.counts in
      rw (clocks, counts) refl
    where
      below : (most n : ℕ) → n + 1 ≤ most → nat_le most n ≡ false
      below most n h = grind (arith, nat_tests)

pub length-done : (slow : SlowSite) (ops : List Op) → length (done slow ops) ≡ length ops
unfolding done
length-done slow [] = refl
length-done slow (op ∷ ops) = ap suc (length-done (with_event slow (next_of slow op)) ops)

-- ---- a gesture of operations, while it is made

pub record Doing (slow : SlowSite) (all left : List Op) (before now : ℕ) (m : Making) : Type 0 where
  pub es : List Event
  pub made : HasMade slow es m
  pub may : MayBecome (with_events slow es) left
  pub rest : es ++ done (with_events slow es) left ≡ done slow all
  pub later : before ≤ now
  pub steps : now + length left ≡ before + length all

pub doing-none : (slow : SlowSite) (all : List Op) → MayBecome slow all → (steps : ℕ) (m : Making)
    → StandsFor slow m.site → m.gesture.events ≡ [] → m.gesture.back ≡ [] → Doing slow all all steps steps m
unfolding with_events
doing-none slow all may steps m stands events back =
    record {
      es = [];
      made = made-none slow m stands events back;
      may = may;
      rest = refl;
      later = omega arith;
      steps = refl;
    }

module _ (slow : SlowSite) (all : List Op) (before now : ℕ) (old : Making) where
  -- the next of them became an event
  pub doing-more : (op : Op) (left : List Op) → Doing slow all (op ∷ left) before now old → (new : Making) (paid : ℕ)
      → ((there : SlowSite) → StandsFor there old.site → MayBecome there (op ∷ [])
      → Makes there (next_of there op) old new)
      → ((there : SlowSite) → StandsFor there old.site → MayBecome there (op ∷ []) → paid ≡ now + 1)
      → Doing slow all left before paid new
  unfolding done with_events
  doing-more op left d new paid makes pays =
      let there = with_events slow d.es in
      let e = next_of there op in
      let may = first-may there op left d.may in
      let more : with_events slow (d.es ++ e ∷ []) ≡ with_event there e = with_events-append slow d.es (e ∷ []) in
      let cost = pays there d.made.site may in
      record {
        es = d.es ++ e ∷ [];
        made = made-more slow d.es e old new d.made (makes there d.made.site may);
        may = subst (λ (x : SlowSite). MayBecome x left) (sym more) (others-may there op left d.may);
        rest =
            append_assoc d.es (e ∷ []) (done (with_events slow (d.es ++ e ∷ [])) left)
            ∙ ap (λ (x : SlowSite). d.es ++ e ∷ done x left) more ∙ d.rest;
        later = omega (arith, d.later, cost);
        steps = omega (arith, d.steps, cost);
      }

  -- all did
  pub doing-end : Doing slow all [] before now old → HasMade slow (done slow all) old × (now ≡ before + length all)
  unfolding done
  doing-end d =
      let same : d.es ≡ done slow all = sym (append-nil d.es) ∙ d.rest in
      (subst (λ (es : List Event). HasMade slow es old) same d.made, omega (arith, d.steps))

  -- a front of them did
  pub doing-front : (left : List Op) → Doing slow all left before now old → (before ≤ now) × (now ≤ before + length all)
  doing-front left d = (d.later, omega (arith, d.steps))
