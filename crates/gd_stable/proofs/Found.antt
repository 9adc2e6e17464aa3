-- The first events above a number that fit into a frame, found one after the other.
use Rattle.std.proofs.Common.{◌≡◌, ℕ, suc, ◌+◌, ◌-◌, ◌<◌, ◌≤◌, get_or, Bool, true, false, cond, nat_lt, List, [], ◌∷◌}
use Rattle.std.proofs.Common.{◌++◌, length, take, drop, refl, sym, ap, ◌∙◌, arith, take-append-drop, append-nil}
use Rattle.std.proofs.Common.{append_assoc, length-append, le-leb}
use Rattle.std.specs.Prelude.{nat_le}
use Rattle.std.proofs.lemmas.Bool.{leb-true, leb-false, lt-leb}
use Rattle.std.proofs.lemmas.List.{take_all, take_at, take_more}
use Rattle.std.proofs.lemmas.List.Elements.{filter-append}
use Rattle.gd_events.specs.Events.{Event}
use Rattle.gd_events.specs.Sound.{IsSound}
use Rattle.gd_grammar.proofs.DrawingEvents.{spelling-length}
use Rattle.gd_grammar.specs.Drawings.{spelling}
use Rattle.gd_grammar.specs.FieldBytes.{each_bytes}
use Rattle.gd_grammar.specs.FrameBytes.{events_bytes}
use Rattle.gd_reference.specs.Fitting.{frame_count, frame_room, in_a_frame}
use Rattle.gd_reference.proofs.Fitting.{fitting_stop, fitting_whole}
use Rattle.gd_wire.specs.Frames.{FrameEventsValue, spelled_events}
use Rattle.gd_stable.specs.Outboxes.{numbered_above, first_above}

-- ---- one event

pub one_above : (k : ℕ) (e : Event) (es : List Event) → k < e.number
    → numbered_above k (e ∷ es) ≡ e ∷ numbered_above k es
one_above k e es above = rw (le-leb (suc k) e.number above) refl

pub none_above : (k : ℕ) (e : Event) → e.number ≤ k → numbered_above k (e ∷ []) ≡ []
none_above k e below = rw (lt-leb (suc k) e.number (omega (arith, below))) refl

none_bytes : length (events_bytes []) ≡ 0
unfolding each_bytes
none_bytes = refl

one_bytes : (e : Event) → length (events_bytes (e ∷ [])) ≡ length (spelling e)
unfolding each_bytes
one_bytes e = ap (λ (l : List ℕ). length l) (append-nil (spelling e))

both_bytes : (es fs : List Event)
    → length (events_bytes (es ++ fs)) ≡ length (events_bytes es) + length (events_bytes fs)
unfolding each_bytes
both_bytes [] fs = omega arith
both_bytes (e ∷ es) fs =
    let all = length-append (spelling e) (events_bytes (es ++ fs)) in
    omega (arith, both_bytes es fs, all, length-append (spelling e) (events_bytes es))

-- ---- how many a frame takes

-- one sound event always fits, so others stand in front of one that doesn't
some_before : (es : List Event) (e : Event) → IsSound e
    → frame_room < length (events_bytes es) + length (spelling e) → 1 ≤ length es
some_before [] e sound long = absurd (omega (arith, none_bytes, spelling-length e sound, long))
some_before (x ∷ es) e sound long = omega arith

-- those that fit, where the next one doesn't
counted_stop : (es : List Event) (e : Event) (more : List Event) → IsSound e → length (events_bytes es) ≤ frame_room
    → frame_room < length (events_bytes es) + length (spelling e) → length es ≡ frame_count (es ++ e ∷ more)
unfolding frame_count
counted_stop es e more sound fit long =
    omega (arith, fitting_stop frame_room es e more fit long, some_before es e sound long)

-- all, where all fit
counted_whole : (es : List Event) → length (events_bytes es) ≤ frame_room → length es ≤ frame_count es
unfolding frame_count
counted_whole es fit = omega (arith, fitting_whole frame_room es fit)

-- ---- one more

-- there is room for it, where it is numbered above k
abbrev pub HasRoom : ℕ → FrameEventsValue → Event → Bool → Type 0
HasRoom k found e told =
    told ≡ nat_le (length (events_bytes (numbered_above k (e ∷ [])))) (frame_room - length found.text)

-- it is put behind those that were found, where it is numbered above k and there is room
abbrev pub IsPut : ℕ → FrameEventsValue → Event → Bool → FrameEventsValue → Type 0
IsPut k before e told found =
    (es : List Event) → before ≡ spelled_events es
    → found ≡ spelled_events (cond told (es ++ numbered_above k (e ∷ [])) es)

module _ (k : ℕ) (found : FrameEventsValue) (e : Event) where
  pub skipped_room : e.number ≤ k → HasRoom k found e true
  skipped_room below =
      let fits = le-leb (length (events_bytes [])) (frame_room - length found.text) (omega (arith, none_bytes)) in
      rw (none_above k e below) (sym fits)

  pub skipped : e.number ≤ k → IsPut k found e true found
  skipped below es is = rw (none_above k e below) (is ∙ ap spelled_events (sym (append-nil es)))

  pub pushed_room : (told : Bool) → k < e.number → told ≡ nat_le (length (spelling e)) (frame_room - length found.text)
      → HasRoom k found e told
  pushed_room told above room = rw (one_above k e [] above, one_bytes e) room

  pub pushed : (told : Bool) (new : FrameEventsValue) → k < e.number
      → ((es : List Event) → found ≡ spelled_events es → new ≡ spelled_events (cond told (es ++ e ∷ []) es))
      → IsPut k found e told new
  pushed told new above push es is = rw (one_above k e [] above) (push es is)

-- ---- one after the other

-- all of those that were seen which are numbered above k, and these fit into a frame
pub record Finding (k : ℕ) (seen : List Event) (found : FrameEventsValue) : Type 0 where
  pub found_is : found ≡ spelled_events (numbered_above k seen)
  pub fit : length (events_bytes (numbered_above k seen)) ≤ frame_room

pub finding_start : (k : ℕ) (seen : List Event) (found : FrameEventsValue) → numbered_above k seen ≡ []
    → found ≡ spelled_events [] → Finding k seen found
finding_start k seen found none is = record {
  found_is = is ∙ ap spelled_events (sym none);
  fit = rw none (omega (arith, none_bytes));
}

module _ (k : ℕ) (seen : List Event) (e : Event) (before found : FrameEventsValue) (told : Bool)
    (f : Finding k seen before) (room : HasRoom k before e told) (put : IsPut k before e told found) where
  abbrev so_far : List Event
  so_far = numbered_above k seen

  put_is : found ≡ spelled_events (cond told (so_far ++ numbered_above k (e ∷ [])) so_far)
  put_is = put so_far f.found_is

  before_bytes : length before.text ≡ length (events_bytes so_far)
  before_bytes = ap (λ (v : FrameEventsValue). length v.text) f.found_is

  seen_more : (rest : List Event) → numbered_above k (seen ++ e ∷ rest) ≡ so_far ++ numbered_above k (e ∷ rest)
  seen_more rest = filter-append (λ x. nat_lt k x.number) seen (e ∷ rest)

  finding_more : told ≡ true → Finding k (seen ++ e ∷ []) found
  finding_more h =
      let fits = leb-true _ _ (sym room ∙ h) in
      let bytes = both_bytes so_far (numbered_above k (e ∷ [])) in
      record {
        found_is = rw h at put_is ∙ ap spelled_events (sym (seen_more []));
        fit = rw (seen_more []) (omega (arith, bytes, fits, before_bytes, f.fit));
      }

  -- it is numbered above k, and doesn't fit
  abbrev IsLong : Type 0
  IsLong = (k < e.number) × (frame_room < length (events_bytes so_far) + length (spelling e))

  is_long : told ≡ false → IsLong
  is_long h = go (nat_le e.number k) refl
    where
      long : frame_room - length before.text < length (events_bytes (numbered_above k (e ∷ [])))
      long = leb-false _ _ (sym room ∙ h)

      go : (b : Bool) → nat_le e.number k ≡ b → IsLong
      go true le = absurd (omega (arith, rw (none_above k e (leb-true e.number k le)) at long, none_bytes))
      go false gt =
          let above = leb-false e.number k gt in
          (above, omega (arith, rw (one_above k e [] above) at long, one_bytes e, before_bytes, f.fit))

  finding_stop : (rest : List Event) → IsSound e → told ≡ false
      → found ≡ spelled_events (first_above k (seen ++ e ∷ rest))
  finding_stop rest sound h =
      let stops = is_long h in
      let more = numbered_above k rest in
      let all : numbered_above k (seen ++ e ∷ rest) ≡ so_far ++ e ∷ more =
      seen_more rest ∙ ap (λ (l : List Event). so_far ++ l) (one_above k e rest stops.0) in
      let first : in_a_frame (so_far ++ e ∷ more) ≡ so_far =
      take_at so_far (e ∷ more) (frame_count (so_far ++ e ∷ more)) (counted_stop so_far e more sound f.fit stops.1) in
      rw h at put_is ∙ ap spelled_events (sym (ap (λ (l : List Event). in_a_frame l) all ∙ first))

-- ---- by their places

module _ (k : ℕ) (items : List Event) (place : ℕ) (e : Event) (inside : place < length items)
    (there : e ≡ get_or items place e) (before found : FrameEventsValue) (told : Bool)
    (f : Finding k (take place items) before) (room : HasRoom k before e told) (put : IsPut k before e told found) where
  with_one : take (place + 1) items ≡ take place items ++ e ∷ []
  with_one = take_more items place e inside ∙ ap (λ (x : Event). take place items ++ x ∷ []) (sym there)

  -- one place further
  pub found_next : told ≡ true → Finding k (take (place + 1) items) found
  found_next h = rw with_one (finding_more k (take place items) e before found told f room put h)

  -- the next one doesn't fit
  pub found_full : IsSound e → told ≡ false → found ≡ spelled_events (first_above k items)
  found_full sound h =
      let rest = drop (place + 1) items in
      let split : take place items ++ e ∷ rest ≡ items =
      sym (append_assoc (take place items) (e ∷ []) rest) ∙ ap (λ (l : List Event). l ++ rest) (sym with_one)
      ∙ take-append-drop (place + 1) items in
      finding_stop k (take place items) e before found told f room put rest sound h
      ∙ ap (λ (l : List Event). spelled_events (first_above k l)) split

-- all were seen
pub found_all : (k : ℕ) (items : List Event) (place : ℕ) (found : FrameEventsValue) → length items ≤ place
    → Finding k (take place items) found → found ≡ spelled_events (first_above k items)
found_all k items place found all f =
    let above = numbered_above k items in
    let seen : numbered_above k (take place items) ≡ above = ap (numbered_above k) (take_all place items all) in
    let whole = counted_whole above (rw seen at f.fit) in
    f.found_is ∙ ap spelled_events (seen ∙ sym (take_all (frame_count above) above whole))
