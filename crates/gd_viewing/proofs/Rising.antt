-- Events of distinct stamps rise in stamp order.
use Rattle.std.proofs.Common.{◌≡◌, Bool, true, false, not, List, [], ◌∷◌, filter, fold, ◌∙◌}
use Rattle.std.proofs.lemmas.Bool.{and_parts, cond_both, not-true}
use Rattle.std.specs.List.{AllByRecursion as Every}
use Rattle.gd_base.specs.Stamps.{Stamp, is_same, is_before}
use Rattle.gd_base.proofs.Insertions.{Every-inserted, IsApart, Rises, Rises-inserted}
use Rattle.gd_base.proofs.StampLemmas.{is_same-comm}
use Rattle.gd_events.specs.Events.{Event}
use Rattle.gd_events.specs.Ordered.{are_distinct, inserted, is_new, ordered}
use Rattle.gd_viewing.proofs.Lists.{Every-filter}

abbrev pub stamp_in : Event → Stamp
stamp_in e = e.stamp

abbrev pub AreRising : List Event → Type 0
AreRising = Rises stamp_in

-- each of the events has another stamp than those that are done
abbrev AllNew : List Event → List Event → Type 0
AllNew events done = Every (λ e. IsApart stamp_in e.stamp done) events

new_still : (e : Event) (es done : List Event) → AllNew es done → is_new es e ≡ true → AllNew es (inserted done e)
new_still e [] done h n = tt
new_still e (f ∷ fs) done h n =
    let parts = and_parts (not (is_same e.stamp f.stamp)) (is_new fs e) n in
    let apart : is_same f.stamp e.stamp ≡ false = is_same-comm f.stamp e.stamp
    ∙ not-true (is_same e.stamp f.stamp) parts.0 in
    (Every-inserted stamp_in (λ g. is_same f.stamp g.stamp ≡ false) done e h.0 apart, new_still e fs done h.1 parts.1)

none_done : (es : List Event) → AllNew es []
none_done [] = tt
none_done (e ∷ es) = (tt, none_done es)

rising_done : (es done : List Event) → AreRising done → AllNew es done → are_distinct es ≡ true
    → AreRising (fold inserted done es)
rising_done [] done r n d = r
rising_done (e ∷ es) done r n d =
    let parts = and_parts (is_new es e) (are_distinct es) d in
    rising_done es (inserted done e) (Rises-inserted stamp_in done e n.0 r) (new_still e es done n.1 parts.0) parts.1

pub ordered_rise : (es : List Event) → are_distinct es ≡ true → AreRising (ordered es)
ordered_rise es d = rising_done es [] tt (none_done es) d

pub filtered_rise : (test : Event → Bool) (es : List Event) → AreRising es → AreRising (filter test es)
filtered_rise test [] r = tt
filtered_rise test (e ∷ es) r =
    cond_both (test e) _ _ AreRising
    (λ passes. (Every-filter (λ f. is_before e.stamp f.stamp ≡ true) test es r.0, filtered_rise test es r.1))
    (λ fails. filtered_rise test es r.1)
