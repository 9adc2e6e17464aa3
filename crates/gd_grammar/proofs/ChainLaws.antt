-- Chains of sound events are checks of their bytes.
use Rattle.std.proofs.Common.{◌≡◌, ◌∙◌, ℕ, ◌<◌, ◌^◌, List, [], ◌∷◌, sym, arith}
use Rattle.std.specs.List.{AllByRecursion as Every}
use Rattle.gd_check.specs.Checks.{IsBurst, check, with_bytes}
use Rattle.gd_check.proofs.Bursts.{bursts_found, check_append, hang_on, inverted-inverted}
use Rattle.gd_events.specs.Events.{Event}
use Rattle.gd_events.specs.Sound.{IsSound}
use Rattle.gd_grammar.specs.Chains.{chain, chained}
use Rattle.gd_grammar.specs.Drawings.{drawings, spelling}
use Rattle.gd_grammar.specs.FieldBytes.{each_bytes}
use Rattle.gd_grammar.specs.FrameBytes.{events_bytes}
use Rattle.gd_grammar.proofs.ByteLemmas.{Bytes, none, both, event-are, spelling-are}
use Rattle.gd_grammar.proofs.LogRecords.{check-lt}

check-none : (c : ℕ) → c < 2 ^ 32 → check c [] ≡ c
unfolding with_bytes
check-none c fits = inverted-inverted c fits

pub chained-check : (c : ℕ) (events : List Event) → c < 2 ^ 32 → Every IsSound events
    → chained drawings c events ≡ check c (events_bytes events)
unfolding chained each_bytes
chained-check c [] fits sound = sym (check-none c fits)
chained-check c (e ∷ es) fits sound =
    chained-check (check c (spelling e)) es (check-lt c (spelling e)) sound.1
    ∙ check_append c (spelling e) (events_bytes es) fits (spelling-are e sound.0)

pub chains-apart : (c d : ℕ) (events : List Event) → c < 2 ^ 32 → d < 2 ^ 32 → Every IsSound events
    → chained drawings c events ≡ chained drawings d events → c ≡ d
unfolding chained
chains-apart c d [] c_fits d_fits sound same = same
chains-apart c d (e ∷ es) c_fits d_fits sound same =
    let c_then = check c (spelling e) in
    let d_then = check d (spelling e) in
    let alike = chains-apart c_then d_then es (check-lt c (spelling e)) (check-lt d (spelling e)) sound.1 same in
    hang_on c d (spelling e) c_fits d_fits (spelling-are e sound.0) alike

events-are : (events : List Event) → Every IsSound events → Bytes (events_bytes events)
unfolding each_bytes
events-are [] sound = none
events-are (e ∷ es) sound = both (spelling e) (events_bytes es) (event-are e sound.0) (events-are es sound.1)

pub accidents-show : (events others : List Event) → Every IsSound events → Every IsSound others
    → IsBurst (events_bytes events) (events_bytes others) → chain drawings events ≡ chain drawings others
    → events_bytes events ≡ events_bytes others
accidents-show events others sound other_sound burst same =
    let are = (events-are events sound).are in
    let other_are = (events-are others other_sound).are in
    let checks : check 0 (events_bytes events) ≡ check 0 (events_bytes others) =
    sym (chained-check 0 events (omega arith) sound) ∙ same ∙ chained-check 0 others (omega arith) other_sound in
    bursts_found 0 (events_bytes events) (events_bytes others) (omega arith) are other_are burst checks
