-- Objects by their ids and events by their stamps, each before those behind it.
use Rattle.std.proofs.Common.{◌≡◌, true, false, not, ◌&&◌, List, [], ◌∷◌, ◌++◌, Option, Some, None, refl, ◌∙◌, IsTrue}
use Rattle.std.specs.FinMap as map_of
use Rattle.std.specs.List.{AllByRecursion as Every}
use Rattle.gd_base.specs.Stamps.{Stamp, stamp_cmp, is_before, is_same}
use Rattle.gd_base.proofs.Lists.{Every-back, Every-weaker}
use Rattle.gd_base.proofs.StampLemmas.{is_before-apart, is_before-trans, is_same-comm}
use Rattle.gd_events.specs.Events.{Event}
use Rattle.gd_events.specs.Ordered.{are_distinct, is_new}
use Rattle.gd_events.specs.Sound.{is_above}
use Rattle.gd_grammar.specs.Reading.{AllFollow}
use Rattle.gd_snapshots.specs.Snapshots.{Placed}
use Rattle.gd_viewer.specs.Opening.{Rise}

-- where each follows on the last one, they rise
module _ {X : Type 0} (key : X → Stamp) (P : Option Stamp → X → Type 0)
    (above : (last : Option Stamp) (x : X) → P last x → is_above last (key x) ≡ true) where
  all_behind : (last : Stamp) (xs : List X) → AllFollow P (λ x. Some (key x)) (Some last) xs
      → Every (λ y. IsTrue (is_before last (key y))) xs
  unfolding AllFollow
  all_behind last [] h = tt
  all_behind last (x ∷ xs) h =
      let first = above (Some last) x h.0 in (
        first,
        Every-weaker _ _
            (λ (y : X) (k : IsTrue (is_before (key x) (key y))). is_before-trans last (key x) (key y) first k) xs
            (all_behind (key x) xs h.1),
      )

  pub rise_follow : (last : Option Stamp) (xs : List X) → AllFollow P (λ x. Some (key x)) last xs → Rise key xs
  unfolding AllFollow
  rise_follow last [] h = tt
  rise_follow last (x ∷ xs) h = (all_behind (key x) xs h.1, rise_follow (Some (key x)) xs h.1)

-- those in front of one are before it
pub rise_front : {X : Type 0} (key : X → Stamp) (done : List X) (x : X) (left : List X) → Rise key (done ++ x ∷ left)
    → Every (λ y. IsTrue (is_before (key y) (key x))) done
rise_front key [] x left h = tt
rise_front key (y ∷ ys) x left h = ((Every-back _ ys (x ∷ left) h.0).0, rise_front key ys x left h.1)

-- an id that all are before is none of theirs
pub find-behind : (id : Stamp) (ps : List Placed) → Every (λ p. IsTrue (is_before p.0 id)) ps
    → map_of.find stamp_cmp id ps ≡ None
find-behind id [] h = refl
find-behind id (p ∷ ps) h = let apart : is_same id p.0 ≡ false = is_same-comm id p.0
    ∙ is_before-apart p.0 id h.0 in rw apart (find-behind id ps h.1)

-- events that rise are distinct
pub rise_distinct : (es : List Event) → Rise (λ e. e.stamp) es → IsTrue (are_distinct es)
rise_distinct [] h = refl
rise_distinct (e ∷ es) h = λ i. new es h.0 i && rise_distinct es h.1 i
  where
    new : (fs : List Event) → Every (λ f. IsTrue (is_before e.stamp f.stamp)) fs → is_new fs e ≡ true
    new [] k = refl
    new (f ∷ fs) k = λ i. not (is_before-apart e.stamp f.stamp k.0 i) && new fs k.1 i
