-- What an `undo`, or a `redo`, comes to is what the reference site answers.
use Rattle.std.proofs.Common.{◌≡◌, ℕ, ◌+◌, Bool, true, false, cond, List, [], ◌∷◌, drop, length, Result, Ok, Err}
use Rattle.std.proofs.Common.{nat_lt, refl, sym, ap, ◌∙◌, subst, arith}
use Rattle.std.proofs.lemmas.Bool.{leb-false}
use Rattle.std.specs.Prelude.{IsOk}
use Rattle.std.specs.List.{AllByRecursion as Every}
use Rattle.std.specs.declared.alloc.AllocError.{AllocError}
use Rattle.gd_base.specs.declared.refusal.EditRefusal.TheVariants.{ClockEnd, SessionFull}
use Rattle.gd_events.specs.Events.{Event}
use Rattle.gd_events.specs.Ops.{Op}
use Rattle.gd_protocol.specs.Sites.{IsBack}
use Rattle.gd_reference.specs.Backs.{kept}
use Rattle.gd_reference.specs.Judging.{greatest_stamp_clock, most_own_events}
use Rattle.gd_reference.specs.SiteEffects.{turned}
use Rattle.gd_reference.specs.SlowSite.{SlowSite, clock, own}
use Rattle.gd_reference.specs.TakeBack.{BackRefusal, Refused, done, turn_by}
use Rattle.gd_site.specs.Sites.{SiteValue, StandsFor}
use Rattle.gd_takeback.proofs.Doing.{length-done}
use Rattle.gd_takeback.specs.Answers.{OnBackRefusal, PaysFor, TurnIs, may_turn, or_fault}
use Rattle.gd_takeback.specs.Lists.{GestureValue}
use Rattle.gd_takeback.specs.Making.{DoesAll, MayBecome}
use Rattle.gd_takeback.specs.Standing.{Handed, PassesOn, handed}
use Rattle.gd_takeback.specs.declared.take_back.BackFault.{BackFault}
use Rattle.gd_takeback.specs.declared.take_back.BackFault.TheVariants as fault

-- ---- the two tests of a gesture, and what comes of them

abbrev room_by : Bool → Bool → Result (Unit {0}) BackFault
room_by a b = or_fault (cond a (Err ClockEnd) (cond b (Err SessionFull) (Ok tt)))

abbrev turn_of : Bool → Bool → List Event → Result (List Event) BackRefusal
turn_of a b es = cond a (Err (Refused ClockEnd)) (cond b (Err (Refused SessionFull)) (Ok es))

refused_by : (a b : Bool) (es : List Event) (why : BackFault) → room_by a b ≡ Err why
    → TurnIs (turn_of a b es) (Err why)
refused_by true b es fault.ClockEnd h = refl
refused_by false true es fault.SessionFull h = refl
refused_by a b es why h = cc

room_for : (a b : Bool) → room_by a b ≡ Ok tt → (a ≡ false) × (b ≡ false)
room_for false false h = (refl, refl)
room_for a b h = cc

-- where it is refused, nothing changes
stays : (why : BackFault) (h : Handed) → OnBackRefusal (Err why) (h ≡ h)
stays fault.NoMemory h = tt
stays why h = refl

pays : (most : ℕ) (why : BackFault) (n : ℕ) → PaysFor most (Err why) n n
pays most fault.NoMemory n = (omega arith, omega arith)
pays most why n = refl

module _ (slow : SlowSite) (s : SiteValue) (stands : StandsFor slow s) where
  here : (due : List (List Op)) → may_turn s.clock s.made due ≡ may_turn (clock slow) (length (own slow)) due
  here due = λ i. may_turn (stands.clock_is i) (stands.made i) due

  abbrev clock_full : List Op → Bool
  clock_full ops = nat_lt greatest_stamp_clock (clock slow + length ops)

  abbrev session_full : List Op → Bool
  session_full ops = nat_lt most_own_events (length (own slow) + length ops)

  answer : (due : List (List Op)) (why : BackFault) → may_turn (clock slow) (length (own slow)) due ≡ Err why
      → TurnIs (turn_by slow due) (Err why)
  answer [] fault.Nothing h = refl
  answer [] why h = cc
  answer (ops ∷ more) why h = refused_by (clock_full ops) (session_full ops) (done slow ops) why h

  pub refused : (due others : List (List Op)) (why : BackFault) → may_turn s.clock s.made due ≡ Err why → (steps : ℕ)
      → PassesOn slow (Err why) (handed s due others) (handed s due others) steps steps
  refused due others why h steps =
      record {
        answer = answer due why (sym (here due) ∙ h);
        passes = tt;
        keeps = stays why (handed s due others);
        steps = pays (length (turned (turn_by slow due))) why steps;
      }

  -- where there is room, there is a gesture, and it becomes its events
  tests : (ops : List Op) (more : List (List Op)) → may_turn s.clock s.made (ops ∷ more) ≡ Ok tt
      → (clock_full ops ≡ false) × (session_full ops ≡ false)
  tests ops more h = room_for (clock_full ops) (session_full ops) (sym (here (ops ∷ more)) ∙ h)

  becomes : (ops : List Op) (more : List (List Op)) → may_turn s.clock s.made (ops ∷ more) ≡ Ok tt
      → turn_by slow (ops ∷ more) ≡ Ok (done slow ops)
  becomes ops more h = let t = tests ops more h in rw (t.0, t.1) refl

  is_some : (due : List (List Op)) → may_turn s.clock s.made due ≡ Ok tt → IsOk (turn_by slow due)
  is_some [] h = cc
  is_some (ops ∷ more) h = rw (becomes ops more h) refl

  pub none : (due : List (List Op)) → may_turn s.clock s.made due ≡ Ok tt → due ≡ [] → ⊥
  none [] h is = cc
  none (ops ∷ more) h is = cc

  -- where memory ran out before anything was done
  pub full : (due others : List (List Op)) → may_turn s.clock s.made due ≡ Ok tt → (new : Handed) (steps : ℕ)
      → PassesOn slow (Err fault.NoMemory) (handed s due others) new steps steps
  full due others h new steps =
      record {
        answer = is_some due h;
        passes = tt;
        keeps = tt;
        steps = pays (length (turned (turn_by slow due))) fault.NoMemory steps;
      }

  module _ (due others more : List (List Op)) (ops : List Op) (first : due ≡ ops ∷ more)
      (room : may_turn s.clock s.made due ≡ Ok tt) (every : Every (Every (IsBack (clock slow))) due)
      (before after : ℕ) (there : SiteValue) where
    room_here : may_turn s.clock s.made (ops ∷ more) ≡ Ok tt
    room_here = subst (λ (l : List (List Op)). may_turn s.clock s.made l ≡ Ok tt) first room

    may : MayBecome slow ops
    may =
        let t = tests ops more room_here in
        let all = subst (Every (Every (IsBack (clock slow)))) first every in
        record {
          clocks = omega (arith, leb-false _ _ t.0);
          counts = omega (arith, leb-false _ _ t.1);
          backs = all.0;
        }

    turns : turn_by slow due ≡ Ok (done slow ops)
    turns = ap (turn_by slow) first ∙ becomes ops more room_here

    -- and where it ran out later
    pub broken : (why : AllocError)
        → (StandsFor slow s → MayBecome slow ops → DoesAll slow ops there before after (Err why)) → (new : Handed)
        → PassesOn slow (Err fault.NoMemory) (handed s due others) new before after
    broken why does new =
        let paid = does stands may in
        let count = length-done slow ops in
        record {
          answer = is_some due room;
          passes = tt;
          keeps = tt;
          steps =
              subst (λ (r : Result (List Event) BackRefusal). PaysFor (length (turned r)) (Err fault.NoMemory) before
              after)
              (sym turns) (paid.0, omega (arith, paid.1, count));
        }

    -- all of it was done
    pub passed : (gesture : GestureValue)
        → (StandsFor slow s → MayBecome slow ops → DoesAll slow ops there before after (Ok gesture))
        → (left : List (List Op)) → left ≡ kept gesture.back others
        → PassesOn slow (Ok gesture.events) (handed s due others) (handed there more left) before after
    passed gesture does left is =
        let did = does stands may in
        let es = did.0.events in
        let count = ap (λ (l : List Event). length l) es in
        record {
          answer = turns ∙ ap (λ (l : List Event). Ok l) (sym es);
          passes =
              rw es
              (record {
                site = did.0.site;
                due = ap (drop 1) (sym first);
                others = is ∙ ap (λ (back : List Op). kept back others) did.0.back;
              });
          keeps = tt;
          steps = omega (arith, did.1, count, length-done slow ops);
        }
