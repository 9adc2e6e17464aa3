-- Events that arrive one after another at a document: what the history is after each, and what each costs.
use Rattle.std.proofs.Common.{◌≡◌, ◌≢◌, ℕ, ◌+◌, ◌<◌, ◌≤◌, ◌^◌, Bool, true, not, ◌&&◌, List, [], ◌∷◌, ◌++◌, length, sum}
use Rattle.std.proofs.Common.{fold}
use Rattle.std.proofs.Common.{refl, sym, ap, ◌∙◌, subst, arith}
use Rattle.std.specs.Prelude.{Result, Ok, Err, OnErr}
use Rattle.std.specs.declared.alloc.AllocError.{AllocError}
use Rattle.std.specs.List.{AllByRecursion as Every, list_all, filter}
use Rattle.std.proofs.lemmas.Bool.{and_parts}
use Rattle.std.proofs.lemmas.List.{append_assoc, append-nil, length-append, length-map}
use Rattle.std.proofs.lemmas.List.Sums.{count_by-le-length, length-filter, sum_by-append}
use Rattle.gd_base.specs.Stamps.{Stamp, is_same, is_before}
use Rattle.gd_base.specs.declared.ranges.TheConstants.{SESSION_EVENTS}
use Rattle.gd_base.proofs.StampLemmas.{is_same-refl, is_same-comm}
use Rattle.gd_base.proofs.Insertions.{all-inserted, length-all_inserted}
use Rattle.gd_base.proofs.Lists.{Every-back}
use Rattle.gd_events.specs.Events.{EventValue, IsSoundWith}
use Rattle.gd_events.specs.Ordered as order
use Rattle.gd_repair.specs.Repair.{Stamped, stamped, Rules, Laws, Outcome, after, recorded, outcome, cost}
use Rattle.gd_history.specs.Entries.{events_of, all_held}
use Rattle.gd_history.specs.Orders.{later_than, inserted, HasNone}
use Rattle.gd_history.specs.Histories.{HistoryValue, arrival_of, base_of}
use Rattle.gd_history.specs.Holding.{Holds}
use Rattle.gd_history.specs.declared.arrival.Arrival.{Arrival}
use Rattle.gd_history.proofs.Holding.{seen-every, seen-later, seen-entered}
use Rattle.gd_arrivals.specs.Arrivals.{drawn, all_drawn, outcome_of, cost_of, costs_from, costs}
use Rattle.gd_arrivals.specs.Tally.{Tally, no_tally, tally}
use Rattle.gd_arriving.specs.Arriving.{AreAbove, PaidFront, counted, undone_in}
use Rattle.gd_arriving.proofs.TallyLemmas.{Tallied, tallied_none, tallied_more, undone_most}

-- ---- distinct stamps

apart : (s t : Stamp) → not (is_same s t) ≡ true → t ≢ s
apart s t h e = let same : is_same s t ≡ true = ap (is_same s) e
    ∙ is_same-refl s in let no : not true ≡ true = ap not (sym same) ∙ h in cc

module _ {O : Type 0} where
  none-same : (s : Stamp) (es : List (EventValue O)) → list_all (λ f. not (is_same s f.stamp)) es ≡ true
      → Every (λ f. f.stamp ≢ s) es
  none-same s [] h = tt
  none-same s (f ∷ fs) h =
      let parts = and_parts (not (is_same s f.stamp)) (list_all (λ g. not (is_same s g.stamp)) fs) h in
      (apart s f.stamp parts.0, none-same s fs parts.1)

  -- an event that is new to others behind it is new to one of them
  new-at : (f e : EventValue O) (fs rest : List (EventValue O)) → order.is_new (fs ++ e ∷ rest) f ≡ true
      → not (is_same f.stamp e.stamp) ≡ true
  new-at f e [] rest h = (and_parts (not (is_same f.stamp e.stamp)) (order.is_new rest f) h).0
  new-at f e (g ∷ gs) rest h
      = new-at f e gs rest (and_parts (not (is_same f.stamp g.stamp)) (order.is_new (gs ++ e ∷ rest) f) h).1

  -- of events with distinct stamps, each is new to those in front of it
  new-between : (done rest : List (EventValue O)) (e : EventValue O) → order.are_distinct (done ++ e ∷ rest) ≡ true
      → order.is_new done e ≡ true
  new-between [] rest e h = refl
  new-between (f ∷ fs) rest e h =
      let parts = and_parts (order.is_new (fs ++ e ∷ rest) f) (order.are_distinct (fs ++ e ∷ rest)) h in
      λ i. (ap not (is_same-comm e.stamp f.stamp) ∙ new-at f e fs rest parts.0) i && new-between fs rest e parts.1 i

  new-step : (done : List (EventValue O)) (f e : EventValue O) → order.is_new done e ≡ true
      → not (is_same e.stamp f.stamp) ≡ true
      → order.is_new (order.inserted done f) e ≡ true
  new-step done f e h new = all-inserted (λ g. g.stamp) (λ g. not (is_same e.stamp g.stamp)) done f
      ∙ (λ i. new i && h i)

  new-fold : (es done : List (EventValue O)) (e : EventValue O) → order.is_new done e ≡ true → order.is_new es e ≡ true
      → order.is_new (fold order.inserted done es) e ≡ true
  new-fold [] done e h new = h
  new-fold (f ∷ fs) done e h new =
      let parts = and_parts (not (is_same e.stamp f.stamp)) (order.is_new fs e) new in
      new-fold fs (order.inserted done f) e (new-step done f e h parts.0) parts.1

-- ---- what is paid, and what is undone

module _ {O : Type 0} (independent covers : Stamped O → Stamped O → Bool) where
  -- an arrival undoes no more events than there are
  pub arrived_undone : (done : List (EventValue O)) (e : EventValue O)
      → undone_in (arrival_of (outcome_of independent covers done e)) ≤ length done
  arrived_undone done e =
      let is_later : EventValue O → Bool = λ f. is_before e.stamp f.stamp in
      let events : List (EventValue O) = filter is_later (order.ordered done) in
      let most = undone_most independent covers (drawn e) (all_drawn events) in
      let in_order = length-all_inserted (λ (f : EventValue O). f.stamp) [] done in
      omega (
        arith,
        most,
        length-map events drawn,
        length-filter is_later (order.ordered done),
        count_by-le-length
            is_later (order.ordered done),
        in_order,
      )

  costs-append : (held es fs : List (EventValue O))
      → costs_from independent covers held (es ++ fs)
      ≡ costs_from independent covers held es ++ costs_from independent covers (held ++ es) fs
  costs-append held [] fs = ap (λ h. costs_from independent covers h fs) (sym (append-nil held))
  costs-append held (e ∷ es) fs =
      ap (λ l. cost_of independent covers held e ∷ l)
      (costs-append (held ++ e ∷ []) es fs
      ∙ ap (λ h. costs_from independent covers (held ++ e ∷ []) es ++ costs_from independent covers h fs)
      (append_assoc held (e ∷ []) es))

-- where making room failed
pub paid_if : {T : Type 0} (r : Result T AllocError) (all : List ℕ) (old now : ℕ) → PaidFront all old now
    → OnErr r (PaidFront all old now)
paid_if (Ok x) all old now h = tt
paid_if (Err x) all old now h = h

-- where no event has arrived
pub paid_none : {T : Type 0} (r : Result T AllocError) (all : List ℕ) (now : ℕ) → OnErr r (PaidFront all now now)
paid_none r all now = paid_if r all now now (record { front = []; back = all; split = refl; paid = omega arith })

-- ---- the history so far

-- the history after these events arrived
abbrev pub Arrived : {D O B M : Type 0} → Rules (Stamped O) B M → (D → M) → M → ℕ → List (EventValue O)
    → HistoryValue D O B → Type 0
Arrived d meaning start line done h = Holds d meaning start (all_drawn (order.ordered done)) line h

-- the events in front of those that are left arrived, at these steps, and were counted
pub record Arriving {D O B M : Type 0} (d : Rules (Stamped O) B M) (meaning : D → M) (start : M) (line : ℕ)
    (all : List (EventValue O)) (h : HistoryValue D O B) (t : Tally) (left : List (EventValue O)) (old now : ℕ) : Type 0
  where
    pub done : List (EventValue O)
    pub split : all ≡ done ++ left
    pub arrived : Arrived d meaning start line done h
    pub counted : Tallied d.independent d.covers done t
    pub paid : now ≡ old + sum (costs d.independent d.covers done)

module _ {D O B M : Type 0} (d : Rules (Stamped O) B M) (meaning : D → M) (start : M) (line : ℕ) where
  -- the event that arrives is new to it
  arrived_fresh : (done rest : List (EventValue O)) (e : EventValue O) (h : HistoryValue D O B)
      → Arrived d meaning start line done h
      → order.are_distinct (done ++ e ∷ rest) ≡ true → HasNone e.stamp (events_of h.entries)
  arrived_fresh done rest e h a distinct =
      seen-every drawn d meaning start done line h a (λ f. f.stamp ≢ e.stamp)
      (none-same e.stamp (order.ordered done) (new-fold done [] e refl (new-between done rest e distinct)))

  -- what comes of it is what the definition says
  arrived_outcome : (done : List (EventValue O)) (e : EventValue O) (h : HistoryValue D O B)
      → Arrived d meaning start line done h → line < e.stamp.clock
      → outcome d.independent d.covers (drawn e) (later_than e.stamp (events_of h.entries))
      ≡ outcome_of d.independent d.covers done e
  arrived_outcome done e h a above
      = ap (outcome d.independent d.covers (drawn e)) (seen-later drawn d meaning start done line h a e.stamp above)

  module _ (all : List (EventValue O)) (old now : ℕ) where
    -- no event so far
    pub arriving_start : (h : HistoryValue D O B) (t : Tally) → h.entries ≡ [] → h.line ≡ line
        → meaning h.document ≡ start → t ≡ no_tally → now ≡ old
        → Arriving d meaning start line all h t all old now
    arriving_start h t none at_line same_start uncounted same = record {
      done = [];
      split = refl;
      arrived = record { line_is = at_line; entries = ap all_held none; document = same_start };
      counted = subst (Tallied d.independent d.covers []) (sym uncounted) (tallied_none d.independent d.covers);
      paid = omega (arith, same);
    }

    module _ {h : HistoryValue D O B} {t : Tally} {e : EventValue O} {were left : List (EventValue O)}
        (first : were ≡ e ∷ left)
        (a : Arriving d meaning start line all h t were old now) (distinct : order.are_distinct all ≡ true)
        (all_above : AreAbove line all)
        {stamp : Stamp} {op : O} (at_stamp : stamp ≡ e.stamp) (has_op : op ≡ e.op) {IsOp : Stamp → O → Type 0}
        (sound : IsSoundWith IsOp e) where
      split_here : all ≡ a.done ++ e ∷ left
      split_here = a.split ∙ ap (λ l. a.done ++ l) first

      above : line < e.stamp.clock
      above = (Every-back _ a.done (e ∷ left) (subst (AreAbove line) split_here all_above)).0 sound.stamp.clock_above

      -- the next one lies above the line
      pub arriving_above : h.line < stamp.clock
      arriving_above = omega (arith, above, a.arrived.line_is, ap (λ (s : Stamp). s.clock) at_stamp)

      -- and is new
      pub arriving_fresh : HasNone stamp (events_of h.entries)
      arriving_fresh = subst (λ s. HasNone s (events_of h.entries)) (sym at_stamp)
          (arrived_fresh a.done left e h a.arrived (ap order.are_distinct (sym split_here) ∙ distinct))

      -- what the history says comes of it
      abbrev found : Outcome (Stamped O)
      found = outcome d.independent d.covers (stamped stamp op) (later_than stamp (events_of h.entries))

      -- the events with it among them
      abbrev with_it : List (Stamped O)
      with_it = inserted (stamped stamp op) (events_of h.entries)

      same : stamped stamp op ≡ drawn e
      same = λ i. stamped (at_stamp i) (has_op i)

      found_is : found ≡ outcome_of d.independent d.covers a.done e
      found_is = (λ i. outcome d.independent d.covers (same i) (later_than (same i).stamp (events_of h.entries)))
          ∙ arrived_outcome a.done e h a.arrived above

      inside : length a.done + 1 ≤ length all
      inside = omega (arith, ap length a.split, length-append a.done were, ap length first)

      module _ {arrival : Arrival} (came : arrival ≡ arrival_of found) (few : length all ≤ SESSION_EVENTS) where
        came_is : arrival ≡ arrival_of (outcome_of d.independent d.covers a.done e)
        came_is = came ∙ ap arrival_of found_is

        undoes_few : undone_in arrival ≤ SESSION_EVENTS
        undoes_few = omega (arith, ap undone_in came_is, arrived_undone d.independent d.covers a.done e, inside)

        -- there is room to count it
        pub arriving_few : t.applied + t.dropped + t.reworked < SESSION_EVENTS
        arriving_few = omega (arith, a.counted.counted, inside)

        pub arriving_room : t.undone + undone_in arrival < 2 ^ 64
        arriving_room = omega (arith, a.counted.undone, undoes_few, inside)

        -- and it stands among the others afterwards
        pub arriving_next : Laws d → {new : HistoryValue D O B} {now_counted : Tally} {after_it : ℕ}
            → all_held new.entries ≡ recorded d with_it (base_of d meaning h)
            → meaning new.document ≡ after d with_it (base_of d meaning h) → new.line ≡ h.line
            → after_it ≡ now + cost found → now_counted ≡ counted t arrival
            → Arriving d meaning start line all new now_counted left old after_it
        arriving_next laws {new} {now_counted} entries document same_line steps one =
            let pieces = costs-append d.independent d.covers [] a.done (e ∷ []) in
            record {
              done = a.done ++ e ∷ [];
              split = split_here ∙ sym (append_assoc a.done (e ∷ []) left);
              arrived = seen-entered drawn d meaning start a.done line h a.arrived laws e above new (record {
                entries = entries ∙ (λ i. recorded d (inserted (same i) (events_of h.entries)) (base_of d meaning h));
                document = document ∙ (λ i. after d (inserted (same i) (events_of h.entries)) (base_of d meaning h));
                line = same_line;
              });
              counted = tallied_more d.independent d.covers a.done t now_counted e arrival a.counted came_is undoes_few
                  one (length-append a.done (e ∷ []));
              paid = omega (
                arith,
                steps,
                a.paid,
                ap cost found_is,
                ap sum pieces,
                sum_by-append (λ (n : ℕ). n) (costs d.independent d.covers a.done)
                    (costs_from d.independent d.covers a.done (e ∷ [])),
              );
            }

    module _ (h : HistoryValue D O B) (t : Tally) (left : List (EventValue O))
        (a : Arriving d meaning start line all h t left old now) where
      -- an early end leaves the first steps
      pub arriving_paid : PaidFront (costs d.independent d.covers all) old now
      arriving_paid = record {
        front = costs d.independent d.covers a.done;
        back = costs_from d.independent d.covers a.done left;
        split = ap (costs d.independent d.covers) a.split ∙ costs-append d.independent d.covers [] a.done left;
        paid = a.paid;
      }

    module _ (h : HistoryValue D O B) (t : Tally) (a : Arriving d meaning start line all h t [] old now) where
      -- all of them arrived
      whole : a.done ≡ all
      whole = sym (a.split ∙ append-nil a.done)

      pub arriving_holds : Arrived d meaning start line all h
      arriving_holds = subst (λ es. Arrived d meaning start line es h) whole a.arrived

      pub arriving_tally : t ≡ tally d.independent d.covers all
      arriving_tally = a.counted.is ∙ ap (tally d.independent d.covers) whole

      pub arriving_steps : now ≡ old + sum (costs d.independent d.covers all)
      arriving_steps = a.paid ∙ ap (λ es. old + sum (costs d.independent d.covers es)) whole

-- no event lies at the line of no events
pub all-above_none : {O : Type 0} (es : List (EventValue O)) → AreAbove 0 es
all-above_none [] = tt
all-above_none (e ∷ es) = (λ has_clock. has_clock, all-above_none es)
