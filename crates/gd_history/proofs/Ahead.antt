-- A place among the entries of a run is one among all.
use Rattle.std.proofs.Common.{◌≡◌, ℕ, ◌+◌, ◌-◌, ◌<◌, List, [], ◌∷◌, ◌++◌, length, drop, get_or, sym, ap, ◌∙◌, arith}
use Rattle.std.proofs.lemmas.List.{length-map, length-drop, length-append, get_or-drop, get_or_append_left, get_or-map}
use Rattle.gd_base.specs.Stamps.{Stamp, is_before}
use Rattle.gd_repair.specs.Repair.{Stamped}
use Rattle.gd_history.specs.Entries.{EntryValue, event_of, events_of}
use Rattle.gd_history.specs.Places.{AreAbout, IsPlaceOf}
use Rattle.gd_history.specs.Orders.{IsRising}
use Rattle.gd_history.proofs.Ordering.{later_at}

one_of : {X : Type 0} (xs : List X) (i : ℕ) → i < length xs → X
one_of [] i inside = absurd (omega (arith, inside))
one_of (x ∷ xs) i inside = x

-- what stands in the run stands that much further among all
module _ {O B : Type 0} (s : Stamp) (xs run : List (EntryValue O B)) (near : ℕ)
    (is : drop near xs ≡ run ++ drop (near + length run) xs) where
  run_within : (j : ℕ) → j < length run → near + j < length xs
  run_within j inside =
      omega (arith, inside, ap length is, length-drop near xs, length-append run (drop (near + length run) xs))

  pub run_read : (j : ℕ) → j < length run → (x : EntryValue O B) → get_or xs (near + j) x ≡ get_or run j x
  run_read j inside x =
      sym (get_or-drop near xs j x)
      ∙ ap (λ l. get_or l j x) is
      ∙ get_or_append_left run (drop (near + length run) xs) x j inside

  event_ahead : (j : ℕ) → j < length run → (x : EntryValue O B) (y : Stamped O)
      → get_or (events_of xs) (near + j) y ≡ get_or (events_of run) j y
  event_ahead j inside x y =
      get_or-map event_of xs (near + j) x y (run_within j inside)
      ∙ ap event_of (run_read j inside x)
      ∙ sym (get_or-map event_of run j x y inside)

  pub place_ahead : IsRising (events_of xs) → (p : ℕ) → 0 < p → AreAbout s (events_of run) (p - 1) p
      → IsPlaceOf s (events_of xs) (near + p)
  place_ahead rising p some about =
      let within = about.within in
      let inside : p < length run = omega (arith, within, length-map run event_of) in
      let before : p - 1 < length run = omega (arith, inside) in
      let x = one_of run p inside in
      let all : near + p < length (events_of xs) = omega (arith, run_within p inside, length-map xs event_of) in
      record {
        within = omega (arith, all);
        later = λ k y up below.
            later_at (events_of xs) (near + p) k y s rising up below
            (ap (λ (z : Stamped O). is_before s z.stamp) (event_ahead p inside x y) ∙ about.later y);
        not_later = λ y more.
            let at : (near + p) - 1 ≡ near + (p - 1) = omega (arith, some) in
            ap (λ n. is_before s (get_or (events_of xs) n y).stamp) at
            ∙ ap (λ (z : Stamped O). is_before s z.stamp) (event_ahead (p - 1) before x y)
            ∙ about.not_later y;
      }
