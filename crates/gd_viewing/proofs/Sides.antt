-- Events in order are those up to a clock and behind them those above it.
use Rattle.std.proofs.Common.{◌≡◌, ℕ, suc, ◌<◌, ◌≤◌, Bool, true, false, cond, List, [], ◌∷◌, ◌++◌, filter, fold, refl}
use Rattle.std.proofs.Common.{sym, ap, ◌∙◌, nat_le, nat_lt, arith, le-leb, append-nil}
use Rattle.std.proofs.lemmas.Bool.{cond_both, lt-leb, leb-false, leb-true}
use Rattle.std.proofs.lemmas.List.Elements.{filter-append}
use Rattle.std.proofs.lemmas.List.Sums.{fold-append}
use Rattle.std.specs.List.{AllByRecursion as Every}
use Rattle.gd_base.specs.Stamps.{Stamp, is_before, is_same}
use Rattle.gd_base.proofs.Lists.{Every-weaker}
use Rattle.gd_base.proofs.StampLemmas.{is_same-true}
use Rattle.gd_base.proofs.StampOrder.{is_before-clocks, is_before-other_way}
use Rattle.gd_events.specs.Events.{Event}
use Rattle.gd_events.specs.Ordered.{inserted, ordered}
use Rattle.gd_events.proofs.OrderLemmas.{InOrder, InOrder-ordered, NoneBefore, order-unique, tied-ordered}
use Rattle.gd_viewing.proofs.Lists.{filter-all, filter-none, filter-swap}

abbrev pub is_low : ℕ → Event → Bool
is_low n e = nat_le e.stamp.clock n

abbrev pub is_high : ℕ → Event → Bool
is_high n e = nat_lt n e.stamp.clock

-- ---- the clocks of events in order

clocks_by : (s t : Stamp) → is_before t s ≡ false → s.clock ≤ t.clock
clocks_by s t later = go (is_same t s) refl
  where
    go : (b : Bool) → is_same t s ≡ b → s.clock ≤ t.clock
    go true same = let one = is_same-true t s same in omega (arith, ap (λ (u : Stamp). u.clock) one)
    go false apart = is_before-clocks s t (is_before-other_way t s later apart)

none_lower : (e : Event) (es : List Event) → NoneBefore e es → Every (λ f. e.stamp.clock ≤ f.stamp.clock) es
none_lower e [] h = tt
none_lower e (f ∷ fs) h = (clocks_by e.stamp f.stamp h.0, none_lower e fs h.1)

-- ---- split at a clock

pub split : (n : ℕ) (es : List Event) → InOrder es → es ≡ filter (is_low n) es ++ filter (is_high n) es
split n [] h = refl
split n (e ∷ es) h = go (is_low n e) refl (split n es h.1)
  where
    above : n < e.stamp.clock → Every (λ f. n < f.stamp.clock) es
    above high = Every-weaker _ _ (λ (f : Event) (le : e.stamp.clock ≤ f.stamp.clock). omega (arith, le, high)) es
        (none_lower e es h.0)

    go : (b : Bool) → is_low n e ≡ b → es ≡ filter (is_low n) es ++ filter (is_high n) es
        → e ∷ es ≡ cond b (e ∷ filter (is_low n) es) (filter (is_low n) es) ++ filter (is_high n) (e ∷ es)
    go true low rest =
        let fails : is_high n e ≡ false = lt-leb (suc n) e.stamp.clock (omega (arith, leb-true e.stamp.clock n low)) in
        rw fails (ap (λ (l : List Event). e ∷ l) rest)
    go false high rest =
        let up : n < e.stamp.clock = leb-false e.stamp.clock n high in
        let none = filter-none (is_low n) es
        (Every-weaker _ _ (λ (f : Event) (lt : n < f.stamp.clock). lt-leb f.stamp.clock n lt) es (above up)) in
        let all = filter-all (is_high n) (e ∷ es) (
          le-leb (suc n) e.stamp.clock up,
          Every-weaker _ _
              (λ (f : Event) (lt : n < f.stamp.clock). le-leb (suc n) f.stamp.clock lt) es (above up),
        ) in
        rw (none, all) refl

-- ---- a filter of events in order

none_filtered : (test : Event → Bool) (e : Event) (es : List Event) → NoneBefore e es → NoneBefore e (filter test es)
none_filtered test e [] h = tt
none_filtered test e (f ∷ fs) h
    = cond_both (test f) _ _ (NoneBefore e) (λ passes. (h.0, none_filtered test e fs h.1))
    (λ fails. none_filtered test e fs h.1)

pub order_filtered : (test : Event → Bool) (es : List Event) → InOrder es → InOrder (filter test es)
order_filtered test [] h = tt
order_filtered test (e ∷ es) h
    = cond_both (test e) _ _ InOrder (λ passes. (none_filtered test e es h.0, order_filtered test es h.1))
    (λ fails. order_filtered test es h.1)

pub filter-ordered : (test : Event → Bool) (es : List Event) → filter test (ordered es) ≡ ordered (filter test es)
filter-ordered test es =
    order-unique (filter test (ordered es)) (ordered (filter test es))
    (order_filtered test (ordered es) (InOrder-ordered es)) (InOrder-ordered (filter test es))
    (λ e. filter-swap _ test (ordered es) ∙ ap (filter test) (tied-ordered e es) ∙ filter-swap test _ es
    ∙ sym (tied-ordered e (filter test es)))

-- events in order are their own order
pub ordered-same : (es : List Event) → InOrder es → ordered es ≡ es
ordered-same es h = order-unique (ordered es) es (InOrder-ordered es) h (λ e. tied-ordered e es)

-- it makes no difference whether the first ones were in order
pub ordered-twice : (es fs : List Event) → ordered (ordered es ++ fs) ≡ ordered (es ++ fs)
ordered-twice es fs =
    fold-append inserted [] (ordered es) fs
    ∙ ap (λ (l : List Event). fold inserted l fs) (ordered-same (ordered es) (InOrder-ordered es))
    ∙ sym (fold-append inserted [] es fs)

-- ---- with events above the clock put behind

-- those up to it are the same
pub low_with : (n : ℕ) (es fs : List Event) → Every (λ f. n < f.stamp.clock) fs
    → filter (is_low n) (ordered (es ++ fs)) ≡ filter (is_low n) (ordered es)
low_with n es fs above =
    let none = filter-none (is_low n) fs
    (Every-weaker _ _ (λ (f : Event) (lt : n < f.stamp.clock). lt-leb f.stamp.clock n lt) fs above) in
    filter-ordered (is_low n) (es ++ fs)
    ∙ ap ordered (filter-append (is_low n) es fs ∙ ap (λ (l : List Event). filter (is_low n) es ++ l) none
    ∙ append-nil (filter (is_low n) es)) ∙ sym (filter-ordered (is_low n) es)

-- those above it are those that were there, and these
pub high_with : (n : ℕ) (es fs : List Event) → Every (λ f. n < f.stamp.clock) fs
    → filter (is_high n) (ordered (es ++ fs)) ≡ ordered (filter (is_high n) (ordered es) ++ fs)
high_with n es fs above =
    let all = filter-all (is_high n) fs
    (Every-weaker _ _ (λ (f : Event) (lt : n < f.stamp.clock). le-leb (suc n) f.stamp.clock lt) fs above) in
    filter-ordered (is_high n) (es ++ fs)
    ∙ ap ordered (filter-append (is_high n) es fs ∙ ap (λ (l : List Event). filter (is_high n) es ++ l) all)
    ∙ sym (ordered-twice (filter (is_high n) es) fs)
    ∙ ap (λ (l : List Event). ordered (l ++ fs)) (sym (filter-ordered (is_high n) es))
