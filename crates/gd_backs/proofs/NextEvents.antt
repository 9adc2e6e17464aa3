-- The next events of a site: what they are, and what is on the board with each.
use Rattle.std.proofs.Common.{◌≡◌, suc, ◌+◌, ◌<◌, ◌≤◌, max, Bool, true, false, cond, List, [], ◌∷◌, ◌++◌, length}
use Rattle.std.proofs.Common.{Result, Ok, Err, nat_le, nat_lt, refl, sym, ap, ◌∙◌, subst, arith, append_assoc}
use Rattle.std.proofs.Common.{append-nil, eq-eqb, length-append}
use Rattle.std.proofs.lemmas.Bool.{false_from_ne_true, leb-false}
use Rattle.std.proofs.lemmas.List.Elements.{filter-append}
use Rattle.std.proofs.lemmas.List.Sums.{fold-append}
use Rattle.std.specs.FinMap as map_of
use Rattle.std.specs.List.{AllByRecursion as Every}
use Rattle.std.specs.Prelude.{is_ok}
use Rattle.gd_base.proofs.Insertions.{Every-all_inserted}
use Rattle.gd_base.proofs.Lists.{Every-weaker}
use Rattle.gd_base.proofs.StampOrder.{is_before-clocks}
use Rattle.gd_base.specs.Insertions.{inserted_by}
use Rattle.gd_base.specs.Stamps.{is_before}
use Rattle.gd_base.specs.declared.refusal.EditRefusal.{EditRefusal}
use Rattle.gd_base.specs.declared.refusal.EditRefusal.TheVariants.{ClockEnd, SessionFull}
use Rattle.gd_events.proofs.OrderLemmas.{ordered-push}
use Rattle.gd_events.specs.Events.{Event}
use Rattle.gd_events.specs.Ops.{Op}
use Rattle.gd_events.specs.Ordered.{inserted, ordered}
use Rattle.gd_lines.specs.Edits.{Edit}
use Rattle.gd_lines.specs.declared.command.Turn.{Turn}
use Rattle.gd_model.specs.Board.{Board, apply, apply_all, board}
use Rattle.gd_reference.specs.Backs.{due}
use Rattle.gd_reference.specs.Judging.{edit, edit_by, event_of, greatest_stamp_clock, judged, most_own_events}
use Rattle.gd_reference.specs.Judging.{next_event, with_event}
use Rattle.gd_reference.specs.SlowSite.{SlowSite, clock, greatest_clock, is_by, made_by, own}
use Rattle.gd_reference.specs.TakeBack.{Asked, Refused, after_asked, answer, back_of, backs_of, done, events_in, made}
use Rattle.gd_reference.specs.TakeBack.{or_refusal, turn, turn_by, with_events}

-- ---- what an operation becomes

-- the event that an operation of the site becomes
abbrev pub next_of : SlowSite → Op → Event
next_of slow change = next_event slow.me (clock slow) (length (own slow)) change

-- it is the next own event
pub record IsOwnNext (slow : SlowSite) (change : Op) (e : Event) : Type 0 where
  pub is : next_of slow change ≡ e
  pub by_me : e.stamp.site ≡ slow.me
  pub numbered_on : e.number ≡ suc (length (own slow))
  pub clocked_on : e.stamp.clock ≡ suc (clock slow)

pub own_next : (slow : SlowSite) (change : Op) (e : Event) → next_of slow change ≡ e → IsOwnNext slow change e
own_next slow change e is =
    subst (IsOwnNext slow change) is
    (record { is = refl; by_me = refl; numbered_on = omega arith; clocked_on = omega arith })

-- there is room for one
pub record HasRoom (slow : SlowSite) : Type 0 where
  pub clock_room : clock slow < greatest_stamp_clock
  pub count_room : length (own slow) < most_own_events

-- an own event is that of the operation that was judged
pub record Becomes (slow : SlowSite) (judgement : Result Op EditRefusal) (e : Event) : Type 0 where
  pub change : Op
  pub judges : judgement ≡ Ok change
  pub next : IsOwnNext slow change e
  pub room : HasRoom slow

becomes : (slow : SlowSite) (judgement : Result Op EditRefusal) (e : Event)
    → edit_by slow.me (clock slow) (length (own slow)) judgement ≡ Ok e → Becomes slow judgement e
becomes slow judgement e ok =
    go (nat_le greatest_stamp_clock (clock slow)) refl (nat_le most_own_events (length (own slow))) refl judgement refl
    ok
  where
    go : (a : Bool) → nat_le greatest_stamp_clock (clock slow) ≡ a → (b : Bool)
        → nat_le most_own_events (length (own slow)) ≡ b → (r : Result Op EditRefusal) → judgement ≡ r
        → cond a (Err ClockEnd) (cond b (Err SessionFull) (event_of slow.me (clock slow) (length (own slow)) r)) ≡ Ok e
        → Becomes slow judgement e
    go false x false y (Ok change) z ok =
        let same : next_of slow change ≡ e = cc in
        let room : HasRoom slow = record { clock_room = leb-false _ _ x; count_room = leb-false _ _ y } in
        record { change = change; judges = z; next = own_next slow change e same; room = room }
    go a x b y r z ok = cc

pub edit-becomes : (slow : SlowSite) (wanted : Edit) (e : Event) → edit slow wanted ≡ Ok e
    → Becomes slow (judged slow.held wanted) e
unfolding edit
edit-becomes slow wanted e ok = becomes slow (judged slow.held wanted) e ok

-- what is accepted
pub accepted_as : {Done Why : Type 0} (r : Result Done Why) → is_ok r ≡ true → (d : Done) × (r ≡ Ok d)
accepted_as (Ok d) h = (d, refl)
accepted_as (Err why) h = cc

-- ---- the board with it

pub every_below : (es : List Event) → Every (λ e. e.stamp.clock ≤ greatest_clock es) es
unfolding greatest_clock
every_below [] = tt
every_below (e ∷ es) = (
  omega arith,
  Every-weaker _ _ (λ (f : Event) (le : f.stamp.clock ≤ greatest_clock es). omega (arith, le)) es (every_below es),
)

abbrev AreNotAfter : Event → List Event → Type 0
AreNotAfter e es = Every (λ f. is_before e.stamp f.stamp ≡ false) es

inserted-last : (es : List Event) (e : Event) → AreNotAfter e es → inserted es e ≡ es ++ e ∷ []
unfolding inserted_by
inserted-last [] e h = refl
inserted-last (f ∷ fs) e h = rw (h.0) (ap (λ l. f ∷ l) (inserted-last fs e h.1))

-- an own event is the last one of all
pub next-board : (slow : SlowSite) (change : Op) (e : Event) → IsOwnNext slow change e
    → board (slow.held ++ e ∷ []) ≡ apply e.stamp e.op (board slow.held)
next-board slow change e next =
    let late : AreNotAfter e slow.held =
    Every-weaker _ _ (λ (f : Event) (le : f.stamp.clock ≤ clock slow).
    false_from_ne_true _ (λ first. omega (arith, le, next.clocked_on, is_before-clocks e.stamp f.stamp first)))
    slow.held (every_below slow.held) in
    let all = Every-all_inserted (λ (f : Event). f.stamp) _ [] slow.held tt late in
    ap (λ es. apply_all es map_of.empty) (ordered-push slow.held e ∙ inserted-last (ordered slow.held) e all)
    ∙ fold-append (λ (done : Board) (f : Event). apply f.stamp f.op done) map_of.empty (ordered slow.held) (e ∷ [])

-- ---- events in a row

-- the site with them holds them too, and is else the same
pub with_events-is : (slow : SlowSite) (es : List Event) → with_events slow es ≡ record slow { held = slow.held ++ es }
unfolding with_events
with_events-is slow [] = ap (λ (l : List Event). record slow { held = l }) (sym (append-nil slow.held))
with_events-is slow (e ∷ es) =
    with_events-is (with_event slow e) es
    ∙ ap (λ (l : List Event). record slow { held = l }) (append_assoc slow.held (e ∷ []) es)

pub with_events-append : (slow : SlowSite) (es fs : List Event)
    → with_events slow (es ++ fs) ≡ with_events (with_events slow es) fs
unfolding with_events
with_events-append slow [] fs = refl
with_events-append slow (e ∷ es) fs = with_events-append (with_event slow e) es fs

-- what takes one more back stands before the others
pub backs_of-push : (slow : SlowSite) (es : List Event) (e : Event)
    → backs_of slow (es ++ e ∷ []) ≡ back_of (with_events slow es) e ∷ backs_of slow es
unfolding with_events backs_of
backs_of-push slow [] e = refl
backs_of-push slow (f ∷ es) e =
    ap (λ (ops : List Op). ops ++ back_of slow f ∷ []) (backs_of-push (with_event slow f) es e)

-- an event that the site makes next, for which there was room
pub record IsOwn (slow : SlowSite) (e : Event) : Type 0 where
  pub next : IsOwnNext slow e.op e
  pub room : HasRoom slow

-- each of them is, where those before it have been made
abbrev pub AreOwn : SlowSite → List Event → Type 0
AreOwn slow [] = Unit {0}
AreOwn slow (e ∷ es) = IsOwn slow e × AreOwn (with_event slow e) es

pub own-append : (slow : SlowSite) (es fs : List Event) → AreOwn slow es → AreOwn (with_events slow es) fs
    → AreOwn slow (es ++ fs)
unfolding with_events
own-append slow [] fs h k = k
own-append slow (e ∷ es) fs h k = (h.0, own-append (with_event slow e) es fs h.1 k)

own-is : (slow : SlowSite) (change : Op) (e : Event) → IsOwnNext slow change e → HasRoom slow → IsOwn slow e
own-is slow change e next room =
    subst (IsOwn slow) next.is (record { next = own_next slow change (next_of slow change) refl; room = room })

-- ---- edits, and gestures

pub edit-own : (slow : SlowSite) (wanted : Edit) → AreOwn slow (events_in (edit slow wanted))
edit-own slow wanted = go (edit slow wanted) refl
  where
    go : (r : Result Event EditRefusal) → edit slow wanted ≡ r → AreOwn slow (events_in r)
    go (Err why) is = tt
    go (Ok e) is = let b = edit-becomes slow wanted e is in (own-is slow b.change e b.next b.room, tt)

-- a refusal of an edit, as one of a line
pub events-or_refusal : (r : Result Event EditRefusal) → events_in (or_refusal r) ≡ events_in r
events-or_refusal (Ok e) = refl
events-or_refusal (Err why) = refl

answer-own : (slow : SlowSite) (asked : Asked) → AreOwn slow (events_in (answer slow asked))
answer-own slow (Ok wanted) = subst (AreOwn slow) (sym (events-or_refusal (edit slow wanted))) (edit-own slow wanted)
answer-own slow (Err refusal) = tt

pub made-own : (slow : SlowSite) (asked : List Asked) → AreOwn slow (made slow asked)
unfolding made
made-own slow [] = tt
made-own slow (first ∷ more) =
    own-append slow (events_in (answer slow first)) (made (after_asked slow first) more) (answer-own slow first)
    (made-own (after_asked slow first) more)

-- ---- undos, and redos

-- with its next event a site's clock is the next one, and it has made one more
pub clock-next : (slow : SlowSite) (change : Op) (e : Event) → IsOwnNext slow change e
    → clock (with_event slow e) ≡ suc (clock slow)
unfolding greatest_clock
clock-next slow change e next = omega (arith, next.clocked_on, last slow.held)
  where
    last : (es : List Event) → greatest_clock (es ++ e ∷ []) ≡ max (greatest_clock es) e.stamp.clock
    last [] = omega arith
    last (f ∷ fs) = omega (arith, last fs)

pub count-next : (slow : SlowSite) (change : Op) (e : Event) → IsOwnNext slow change e
    → length (own (with_event slow e)) ≡ suc (length (own slow))
unfolding made_by
count-next slow change e next =
    ap (λ (l : List Event). length l) (filter-append (is_by slow.me) slow.held (e ∷ []))
    ∙ ap (λ (b : Bool). length (own slow ++ cond b (e ∷ []) [])) (eq-eqb e.stamp.site slow.me next.by_me)
    ∙ length-append (own slow) (e ∷ []) ∙ omega arith

-- operations that there is room for become events, one after another
pub done-own : (slow : SlowSite) (ops : List Op) → clock slow + length ops ≤ greatest_stamp_clock
    → length (own slow) + length ops ≤ most_own_events → AreOwn slow (done slow ops)
unfolding done
done-own slow [] clocks counts = tt
done-own slow (op ∷ ops) clocks counts =
    let e = next_of slow op in
    let next = own_next slow op e refl in
    let room : HasRoom slow = record { clock_room = omega (arith, clocks); count_room = omega (arith, counts) } in (
      record { next = next; room = room },
      done-own (with_event slow e) ops (omega (arith, clocks, clock-next slow op e next))
          (omega (arith, counts, count-next slow op e next)),
    )

-- an undo, or a redo, is the next events of the first gesture that is due
pub record IsTurned (slow : SlowSite) (which : Turn) (es : List Event) : Type 0 where
  pub ops : List Op
  pub others : List (List Op)
  pub first : due which slow.backs ≡ ops ∷ others
  pub are : done slow ops ≡ es
  pub own : AreOwn slow es

pub turn-becomes : (slow : SlowSite) (which : Turn) (es : List Event) → turn slow which ≡ Ok es → IsTurned slow which es
unfolding turn
turn-becomes slow which es ok = go (due which slow.backs) refl ok
  where
    by : (ops : List Op) (others : List (List Op)) → due which slow.backs ≡ ops ∷ others
        → (a : Bool) → nat_lt greatest_stamp_clock (clock slow + length ops) ≡ a
        → (b : Bool) → nat_lt most_own_events (length (own slow) + length ops) ≡ b
        → cond a (Err (Refused ClockEnd)) (cond b (Err (Refused SessionFull)) (Ok (done slow ops))) ≡ Ok es
        → IsTurned slow which es
    by ops others first false x false y k =
        let same : done slow ops ≡ es = cc in
        let own = done-own slow ops (omega (arith, leb-false _ _ x)) (omega (arith, leb-false _ _ y)) in
        record { ops = ops; others = others; first = first; are = same; own = subst (AreOwn slow) same own }
    by ops others first a x b y k = cc

    go : (all : List (List Op)) → due which slow.backs ≡ all → turn_by slow all ≡ Ok es → IsTurned slow which es
    go [] is k = cc
    go (ops ∷ others) is k =
        by ops others is (nat_lt greatest_stamp_clock (clock slow + length ops)) refl
        (nat_lt most_own_events (length (own slow) + length ops)) refl k

pub turn-own : (slow : SlowSite) (which : Turn) (es : List Event) → turn slow which ≡ Ok es → AreOwn slow es
turn-own slow which es ok = (turn-becomes slow which es ok).own
