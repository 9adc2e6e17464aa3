-- The frames that a poll sends to another site.
use Rattle.std.proofs.Common.{◌≡◌, ◌≢◌, ℕ, zero, suc, ◌+◌, ◌-◌, ◌≤◌, Bool, true, false, nat_lt, List, [], ◌∷◌, ◌++◌}
use Rattle.std.proofs.Common.{length, take, drop, refl, sym, ap, ◌∙◌, append_assoc, length-append, take-append-drop}
use Rattle.std.proofs.Common.{arith}
use Rattle.std.proofs.lemmas.Bool.{cond_both, ne_eqb}
use Rattle.std.proofs.lemmas.List.{drop-drop}
use Rattle.std.specs.List.{AllByRecursion as Every, flat_map}
use Rattle.gd_events.specs.Events.{Event}
use Rattle.gd_grammar.specs.FrameBytes.{Frame}
use Rattle.gd_base.specs.Sites.{is_site}
use Rattle.gd_base.proofs.Lists.{Every-append}
use Rattle.gd_reference.specs.Fitting.{frame_count}
use Rattle.gd_reference.specs.Offers.{brought, brought_behind, frame_behind, frames_again, frames_in_turn}
use Rattle.gd_reference.specs.Offers.{further_frames, most_again, most_in_turn, unacked, window}
use Rattle.gd_reference.specs.SlowSite.{SlowSite, own}
use Rattle.gd_reference.specs.World.{World, happens}
use Rattle.gd_protocol.specs.Laws.{IsFrontOf, IsSent}

-- ---- what each frame is, each of a window is

module _ (P : Frame → Type 0) (slow : SlowSite) (to : ℕ) (each : (start : ℕ) → P (frame_behind slow to start)) where
  each_further : (most start : ℕ) → Every P (further_frames most slow to start)
  unfolding further_frames
  each_further zero start = tt
  each_further (suc most) start =
      cond_both (nat_lt start (length (own slow))) _ [] (λ (fs : List Frame). Every P fs)
      (λ left. (each start, each_further most (brought_behind slow to start))) (λ none. tt)

  each_again : Every P (frames_again slow to)
  each_again =
      cond_both (nat_lt (brought slow to) (length (own slow))) _ [] (λ (fs : List Frame). Every P fs)
      (λ left. each_further most_again (slow.acked to)) (λ none. tt)

  pub each_of_window : (heard : Bool) → Every P (window slow heard to)
  each_of_window true =
      Every-append P (frames_in_turn slow to) (frames_again slow to)
      (each (slow.acked to), each_further (most_in_turn - 1) (brought slow to)) each_again
  each_of_window false = (each (slow.acked to), tt)

-- the mail of a send
sent_one : (w : World) (from to : ℕ) → is_site w.sites from ≡ true → is_site w.sites to ≡ true → from ≢ to
    → (start : ℕ) → IsSent w from to (frame_behind (w.at from) to start)
unfolding happens
sent_one w from to from_in to_in apart start = (start, rw (from_in, to_in, ne_eqb from to apart) refl)

pub window_sent : (w : World) (heard : Bool) (from to : ℕ) → is_site w.sites from ≡ true → is_site w.sites to ≡ true
    → from ≢ to → Every (IsSent w from to) (window (w.at from) heard to)
window_sent w heard from to from_in to_in apart =
    each_of_window (IsSent w from to) (w.at from) to (sent_one w from to from_in to_in apart) heard

-- ---- they go on

-- the events of these frames, one frame after the other
abbrev all_of : List Frame → List Event
all_of fs = flat_map (λ f. f.events) fs

-- where fewer are there, as many are dropped
drop_taken : (count : ℕ) (es : List Event) → drop count es ≡ drop (length (take count es)) es
drop_taken zero es = refl
drop_taken (suc count) [] = refl
drop_taken (suc count) (e ∷ es) = drop_taken count es

module _ (slow : SlowSite) (to : ℕ) where
  -- what a frame leaves is what is behind it
  left_behind : (start : ℕ)
      → drop start (own slow) ≡ (frame_behind slow to start).events ++ drop (brought_behind slow to start) (own slow)
  unfolding frame_behind
  left_behind start =
      let unsent = drop start (own slow) in
      let count = frame_count unsent in
      sym (take-append-drop count unsent)
      ∙ ap (λ (l : List Event). take count unsent ++ l) (same start unsent count refl)
    where
      same : (start : ℕ) (unsent : List Event) (count : ℕ) → unsent ≡ drop start (own slow)
          → drop count unsent ≡ drop (start + length (take count unsent)) (own slow)
      same start unsent count is =
          drop_taken count unsent
          ∙ ap (drop (length (take count unsent))) is
          ∙ drop-drop (length (take count unsent)) start (own slow)

  front_then : (start : ℕ) (fs : List Frame) → IsFrontOf (all_of fs) (drop (brought_behind slow to start) (own slow))
      → IsFrontOf (all_of (frame_behind slow to start ∷ fs)) (drop start (own slow))
  front_then start fs more =
      let events = (frame_behind slow to start).events in (
        more.0,
        left_behind start ∙ ap (λ (l : List Event). events ++ l) more.1 ∙ sym (append_assoc events (all_of fs) more.0),
      )

  front_none : (start : ℕ) → IsFrontOf (all_of []) (drop start (own slow))
  front_none start = (drop start (own slow), refl)

  front_further : (most start : ℕ) → IsFrontOf (all_of (further_frames most slow to start)) (drop start (own slow))
  unfolding further_frames
  front_further zero start = front_none start
  front_further (suc most) start =
      let next = brought_behind slow to start in
      cond_both (nat_lt start (length (own slow))) _ []
      (λ (fs : List Frame). IsFrontOf (all_of fs) (drop start (own slow)))
      (λ left. front_then start (further_frames most slow to next) (front_further most next)) (λ none. front_none start)

  pub turn_front : IsFrontOf (all_of (frames_in_turn slow to)) (unacked slow to)
  turn_front =
      let more = further_frames (most_in_turn - 1) slow to (brought slow to) in
      front_then (slow.acked to) more (front_further (most_in_turn - 1) (brought slow to))

  pub again_front : IsFrontOf (all_of (frames_again slow to)) (unacked slow to)
  again_front =
      cond_both (nat_lt (brought slow to) (length (own slow))) _ []
      (λ (fs : List Frame). IsFrontOf (all_of fs) (unacked slow to))
      (λ left. front_further most_again (slow.acked to)) (λ none. front_none (slow.acked to))

  few_further : (most start : ℕ) → length (further_frames most slow to start) ≤ most
  unfolding further_frames
  few_further zero start = omega arith
  few_further (suc most) start =
      cond_both (nat_lt start (length (own slow))) _ [] (λ (fs : List Frame). length fs ≤ suc most)
      (λ left. omega (arith, few_further most (brought_behind slow to start))) (λ none. omega arith)

  few_again : length (frames_again slow to) ≤ most_again
  few_again =
      cond_both (nat_lt (brought slow to) (length (own slow))) _ [] (λ (fs : List Frame). length fs ≤ most_again)
      (λ left. few_further most_again (slow.acked to)) (λ none. omega arith)

pub few_frames : (slow : SlowSite) (heard : Bool) (to : ℕ) → length (window slow heard to) ≤ most_in_turn + most_again
few_frames slow true to =
    let further = few_further slow to (most_in_turn - 1) (brought slow to) in
    omega (arith, length-append (frames_in_turn slow to) (frames_again slow to), further, few_again slow to)
few_frames slow false to = omega arith
