-- How many events fit into a frame.
use Rattle.std.proofs.Common.{◌≡◌, ℕ, zero, suc, ◌-◌, ◌+◌, ◌*◌, ◌<◌, ◌≤◌, min, nat_le, List, [], ◌∷◌, ◌++◌, length}
use Rattle.std.proofs.Common.{take, drop, refl, sym, ap, subst, length-append, length-take, arith}
use Rattle.std.proofs.lemmas.Bool.{cond_both, leb-true, leb-false}
use Rattle.std.specs.List.{AllByRecursion as Every}
use Rattle.gd_events.specs.Events.{Event}
use Rattle.gd_events.specs.Sound.{IsSound}
use Rattle.gd_grammar.proofs.DrawingEvents.{spelling-least, spelling-length}
use Rattle.gd_grammar.specs.Drawings.{spelling}
use Rattle.gd_grammar.specs.FieldBytes.{each_bytes}
use Rattle.gd_grammar.specs.FrameBytes.{events_bytes}
use Rattle.gd_reference.proofs.Lengths.{spelling-short}
use Rattle.gd_reference.specs.Fitting.{Carries, HasNoTies, fitting, frame_count, frame_room, in_a_frame}

-- ---- those that fit

-- the first one fits, or none does
fits_by : (P : ℕ → Type 0) (e : Event) (room : ℕ) (es : List Event)
    → (length (spelling e) ≤ room → P (suc (fitting (room - length (spelling e)) es)))
    → (room < length (spelling e) → P 0) → P (fitting room (e ∷ es))
unfolding fitting
fits_by P e room es fits long =
    cond_both (nat_le (length (spelling e)) room) _ 0 P (λ h. fits (leb-true (length (spelling e)) room h))
    (λ h. long (leb-false (length (spelling e)) room h))

-- their bytes fit
pub fitting_fits : (room : ℕ) (es : List Event) → length (events_bytes (take (fitting room es) es)) ≤ room
unfolding fitting each_bytes
fitting_fits room [] = omega arith
fitting_fits room (e ∷ es) =
    fits_by (λ n. length (events_bytes (take n (e ∷ es))) ≤ room) e room es
    (λ fits.
    let rest = room - length (spelling e) in
    let behind = events_bytes (take (fitting rest es) es) in
    omega (arith, fits, fitting_fits rest es, length-append (spelling e) behind))
    (λ long. omega arith)

-- and no longer row of them has bytes that do
pub fitting_most : (room : ℕ) (es : List Event) (most : ℕ) → most ≤ length es
    → length (events_bytes (take most es)) ≤ room → most ≤ fitting room es
unfolding each_bytes
fitting_most room es zero there fits = omega arith
fitting_most room [] (suc most) there fits = absurd (omega (arith, there))
fitting_most room (e ∷ es) (suc most) there fits =
    let parts = length-append (spelling e) (events_bytes (take most es)) in
    fits_by (λ n. suc most ≤ n) e room es
    (λ first.
    let rest = room - length (spelling e) in
    omega (arith, fitting_most rest es most (omega (arith, there)) (omega (arith, fits, parts, first))))
    (λ long. absurd (omega (arith, long, fits, parts)))

-- ---- found one after the other

-- where all of them fit, and the next one doesn't, they are those that fit
pub fitting_stop : (room : ℕ) (xs : List Event) (e : Event) (more : List Event) → length (events_bytes xs) ≤ room
    → room < length (events_bytes xs) + length (spelling e) → fitting room (xs ++ e ∷ more) ≡ length xs
unfolding each_bytes
fitting_stop room [] e more fits long =
    fits_by (λ n. n ≡ 0) e room more (λ first. absurd (omega (arith, first, long))) (λ none. refl)
fitting_stop room (x ∷ xs) e more fits long =
    let parts = length-append (spelling x) (events_bytes xs) in
    fits_by (λ n. n ≡ suc (length xs)) x room (xs ++ e ∷ more)
    (λ first.
    let rest = room - length (spelling x) in
    ap suc (fitting_stop rest xs e more (omega (arith, fits, parts)) (omega (arith, long, parts, first))))
    (λ none. absurd (omega (arith, none, fits, parts)))

-- and where all of them fit, all do
pub fitting_whole : (room : ℕ) (xs : List Event) → length (events_bytes xs) ≤ room → fitting room xs ≡ length xs
unfolding fitting each_bytes
fitting_whole room [] fits = refl
fitting_whole room (x ∷ xs) fits =
    let parts = length-append (spelling x) (events_bytes xs) in
    fits_by (λ n. n ≡ suc (length xs)) x room xs
    (λ first. ap suc (fitting_whole (room - length (spelling x)) xs (omega (arith, fits, parts))))
    (λ none. absurd (omega (arith, none, fits, parts)))

-- ---- sound events

-- one fits
one_fits : (es : List Event) → Every IsSound es → min 1 (length es) ≤ fitting frame_room es
unfolding each_bytes
one_fits [] sound = omega arith
one_fits (e ∷ es) sound =
    let fits = fitting_most frame_room (e ∷ es) 1 (omega arith)
    (omega (arith, spelling-length e sound.0, length-append (spelling e) [])) in
    omega (arith, fits)

-- so a frame takes those that fit
pub frame_takes : (es : List Event) → Every IsSound es → in_a_frame es ≡ take (fitting frame_room es) es
unfolding frame_count fitting
frame_takes [] sound = refl
frame_takes (e ∷ es) sound =
    let same : frame_count (e ∷ es) ≡ fitting frame_room (e ∷ es) = omega (arith, one_fits (e ∷ es) sound) in
    ap (λ (n : ℕ). take n (e ∷ es)) same

pub fits_in_frame : (es : List Event) → Every IsSound es → length (events_bytes (in_a_frame es)) ≤ frame_room
fits_in_frame es sound =
    subst (λ (l : List Event). length (events_bytes l) ≤ frame_room) (sym (frame_takes es sound))
    (fitting_fits frame_room es)

-- no more than 67 do, as each has 17 bytes
fitting_few : (room : ℕ) (es : List Event) → Every IsSound es → 17 * fitting room es ≤ room
unfolding fitting
fitting_few room [] sound = omega arith
fitting_few room (e ∷ es) sound =
    fits_by (λ n. 17 * n ≤ room) e room es
    (λ fits.
    let rest = room - length (spelling e) in
    omega (arith, fits, spelling-least e sound.0, fitting_few rest es sound.1))
    (λ long. omega arith)

pub few_in_frame : (es : List Event) → Every IsSound es → length (in_a_frame es) ≤ 67
few_in_frame es sound =
    subst (λ (l : List Event). length l ≤ 67) (sym (frame_takes es sound))
    (omega (arith, fitting_few frame_room es sound, length-take (fitting frame_room es) es))

-- ---- how many a frame takes

-- as many as fit
pub longest_counted : (es : List Event) (most : ℕ) → most ≤ length es
    → length (events_bytes (take most es)) ≤ frame_room → most ≤ frame_count es
unfolding frame_count
longest_counted es most there fits = omega (arith, fitting_most frame_room es most there fits)

-- one in any case
pub one_counted : (es : List Event) → min 1 (length es) ≤ frame_count es
unfolding frame_count
one_counted es = omega arith

pub one_carried : (es : List Event) → Carries 1 es
one_carried es place = one_counted (drop place es)

-- two, where neither has ties
pub two_counted : (es : List Event) → Every IsSound es → Every (λ e. HasNoTies e.op) (take 2 es)
    → min 2 (length es) ≤ frame_count es
unfolding each_bytes
two_counted [] sound free = omega arith
two_counted (e ∷ []) sound free = omega (arith, one_counted (e ∷ []))
two_counted (e ∷ f ∷ es) sound free =
    let first = spelling-short e sound.0 free.0 in
    let second = spelling-short f sound.1.0 free.1.0 in
    let parts = length-append (spelling e) (spelling f ++ []) in
    let fits = longest_counted (e ∷ f ∷ es) 2 (omega arith)
    (omega (arith, first, second, parts, length-append (spelling f) [])) in
    omega (arith, fits)
