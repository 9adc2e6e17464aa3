-- Events that come to a viewer one after another.
use Rattle.std.proofs.Common.{◌≡◌, ℕ, suc, ◌+◌, ◌<◌, List, [], ◌∷◌, length, drop, drop-cons, get_or, add-one, refl, sym}
use Rattle.std.proofs.Common.{ap, ◌∙◌, subst}
use Rattle.std.specs.Prelude.{Result, Ok, Err, IsErrAnd}
use Rattle.gd_effects.proofs.Doing.{does_as, does_exit, does_more, does_nothing, does_then}
use Rattle.gd_effects.specs.Outside.{outside}
use Rattle.gd_effects.specs.Prints.{PrintsInSteps}
use Rattle.gd_events.specs.Events.{Event}
use Rattle.gd_outside.specs.Seen.{SeenSink}
use Rattle.gd_outside.specs.declared.end.End.{End}
use Rattle.gd_viewer.specs.Viewers.{StandsFor, ViewerValue}
use Rattle.gd_viewing.specs.SlowViewer.{SlowViewer, viewer_all_arrived, viewer_arrived}
use Rattle.gd_viewing.specs.ViewerEffects.{of_viewer_event, of_viewer_events}

-- Some of all events have arrived, and these are left: what is done for those that are left is done for all.
pub record Onward (v : SlowViewer) (all : List Event) (a : SeenSink) (k : ℕ) (left : List Event) (viewer : ViewerValue)
    (b : SeenSink) (l : ℕ) : Type 0 where
  pub at : SlowViewer
  pub stands : StandsFor at viewer
  pub reaches : viewer_all_arrived v all ≡ viewer_all_arrived at left
  pub onward : (r : Result (Unit {0}) End) (c : SeenSink) (m : ℕ) → PrintsInSteps b l (of_viewer_events at left) r c m
      → PrintsInSteps a k (of_viewer_events v all) r c m

module _ (v : SlowViewer) (all : List Event) {a : SeenSink} {k : ℕ} where
  pub onward_start : {viewer : ViewerValue} → StandsFor v viewer → Onward v all a k all viewer a k
  onward_start stands = record { at = v; stands = stands; reaches = refl; onward = λ r c m done. done }

  module _ {left : List Event} {viewer : ViewerValue} {b : SeenSink} {l : ℕ} (h : Onward v all a k left viewer b l)
    where
      -- an event more
      pub onward_more : (e : Event) (es : List Event) → left ≡ e ∷ es → {viewer' : ViewerValue} {c : SeenSink} {m : ℕ}
          → ((s : SlowViewer) → StandsFor s viewer → PrintsInSteps {T = Unit {0}} b l (of_viewer_event s e) (Ok tt) c m)
          → ((s : SlowViewer) → StandsFor s viewer → StandsFor (viewer_arrived s e) viewer')
          → Onward v all a k es viewer' c m
      unfolding viewer_all_arrived of_viewer_events
      onward_more e es is {viewer'} {c} {m} done reached = record {
        at = viewer_arrived h.at e;
        stands = reached h.at h.stands;
        reaches = h.reaches ∙ ap (viewer_all_arrived h.at) is;
        onward = λ r d n rest.
            h.onward r d n (λ input journal link.
            does_as (ap (of_viewer_events h.at) is)
            (does_then (done h.at h.stands input journal link) (rest input journal link)));
      }

      -- an early end at the next of them
      pub onward_exit : {end : End} (e : Event) (es : List Event) → left ≡ e ∷ es → (r : Result (Unit {0}) End)
          → IsErrAnd r (λ y. y ≡ end) → {c : SeenSink} {m : ℕ}
          → ((s : SlowViewer) → StandsFor s viewer
          → PrintsInSteps {T = Unit {0}} b l (of_viewer_event s e) (Err end) c m)
          → PrintsInSteps a k (of_viewer_events v all) r c m
      unfolding of_viewer_events
      onward_exit e es is r gone {c} {m} cut =
          h.onward r c m (λ input journal link.
          does_as (ap (of_viewer_events h.at) is)
          (does_exit {U = Unit {0}} r gone
          (does_more (of_viewer_events (viewer_arrived h.at e) es) (cut h.at h.stands input journal link))))

      module _ (over : left ≡ []) where
        pub onward_done : PrintsInSteps {T = Unit {0}} a k (of_viewer_events v all) (Ok tt) b l
        unfolding of_viewer_events
        onward_done = h.onward (Ok tt) b l
            (λ input journal link. does_as (ap (of_viewer_events h.at) over)
            (does_nothing (outside input b journal link l)))

        pub onward_stands : StandsFor (viewer_all_arrived v all) viewer
        unfolding viewer_all_arrived
        onward_stands = subst (λ (s : SlowViewer). StandsFor s viewer)
            (sym (h.reaches ∙ ap (viewer_all_arrived h.at) over)) h.stands

-- the next event of a loop
pub at_item : (xs : List Event) (i : ℕ) (x : Event) → i < length xs → x ≡ get_or xs i x
    → drop i xs ≡ x ∷ drop (i + 1) xs
at_item xs i x below is = drop-cons xs i x below ∙ ap (λ (z : Event). z ∷ drop (suc i) xs) (sym is)
    ∙ ap (λ (k : ℕ). x ∷ drop k xs) (sym (add-one i))
