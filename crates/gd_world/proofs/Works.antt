-- The steps among effects: what is recorded, printed or tried takes none.
use Rattle.std.proofs.Common.{◌≡◌, ℕ, zero, suc, ◌+◌, ◌==◌, nat_lt, Bool, true, false, cond, List, [], ◌∷◌, ◌++◌}
use Rattle.std.proofs.Common.{length, map, refl, ◌∙◌, ap, append-nil}
use Rattle.std.proofs.lemmas.List.Elements.{filter-append}
use Rattle.std.specs.List.{filter}
use Rattle.gd_answers.specs.Paying.{frame_works, works_by}
use Rattle.gd_base.specs.declared.verdict.Verdict.{Verdict}
use Rattle.gd_base.specs.declared.verdict.Verdict.TheVariants.{Taken}
use Rattle.gd_effects.specs.Effects.{Effect, Try, Work}
use Rattle.gd_events.specs.Events.{Event}
use Rattle.gd_grammar.specs.FrameBytes.{Frame, frame_bytes}
use Rattle.gd_lines.specs.declared.command.Command.TheVariants as command
use Rattle.gd_lines.specs.declared.reply.Reply.{Reply}
use Rattle.gd_model.specs.Arrivals.{cost_of}
use Rattle.gd_reference.specs.NodeRun.{of_received, received, senders}
use Rattle.gd_reference.specs.Offers.{arrived, brought, frame_for, offer, verdict, window}
use Rattle.gd_reference.specs.Said.{all_said}
use Rattle.gd_reference.specs.SiteEffects.{events_replies, is_among, of_frame, of_own, of_verdict, recording, taken}
use Rattle.gd_reference.specs.SiteEffects.{taken_as, tries, tries_behind, tries_for, tries_of, tries_with, try_for}
use Rattle.gd_reference.specs.SiteEffects.{try_with, verdict_replies, works_of}
use Rattle.gd_reference.specs.SlowSite.{SlowSite, own}
use Rattle.gd_reference.specs.TakeBack.{with_events}
use Rattle.gd_world.specs.Telling.{work_of}
use Rattle.gd_worlds.specs.Rehearsal.{is_work}

-- ---- what takes none

none_both : (xs ys : List Effect) → filter is_work xs ≡ [] → filter is_work ys ≡ [] → filter is_work (xs ++ ys) ≡ []
none_both xs ys none no_more = filter-append is_work xs ys ∙ (λ i. none i ++ no_more i)

pub none_said : (replies : List Reply) → filter is_work (all_said replies) ≡ []
none_said [] = refl
none_said (r ∷ rs) = none_said rs

none_recorded : (slow : SlowSite) (es : List Event) → filter is_work (recording slow es) ≡ []
none_recorded slow [] = refl
none_recorded slow (e ∷ es) = refl

none_for : (slow : SlowSite) (to : ℕ) → filter is_work (try_for slow to) ≡ []
none_for slow to = by (to == slow.me)
  where
    by : (own : Bool) → filter is_work (cond own [] (Try to (frame_bytes (frame_for slow to)) ∷ [])) ≡ []
    by true = refl
    by false = refl

none_with : (slow : SlowSite) (new to : ℕ) → filter is_work (try_with slow new to) ≡ []
none_with slow new to = by (nat_lt (length (own slow)) (brought slow to + new))
  where
    by : (brings : Bool) → filter is_work (cond brings (try_for slow to) []) ≡ []
    by true = none_for slow to
    by false = refl

none_behind : (try : ℕ → List Effect) → ((to : ℕ) → filter is_work (try to) ≡ []) → (site k : ℕ)
    → filter is_work (tries_behind try site k) ≡ []
unfolding tries_behind
none_behind try none site zero = refl
none_behind try none site (suc k)
    = none_both (try (site + 1)) (tries_behind try (site + 1) k) (none (site + 1)) (none_behind try none (site + 1) k)

none_of : (to : ℕ) (frames : List Frame) → filter is_work (tries_of to frames) ≡ []
none_of to [] = refl
none_of to (f ∷ fs) = none_of to fs

none_window : (slow : SlowSite) (heard : List ℕ) (to : ℕ) → filter is_work (tries_for slow heard to) ≡ []
none_window slow heard to = by (to == slow.me)
  where
    by : (own : Bool) → filter is_work (cond own [] (tries_of to (window slow (is_among heard to) to))) ≡ []
    by true = refl
    by false = none_of to (window slow (is_among heard to) to)

none_tried : (slow : SlowSite) (heard : List ℕ) → filter is_work (tries slow heard) ≡ []
none_tried slow heard = none_behind (tries_for slow heard) (none_window slow heard) 0 slow.sites

none_tried_with : (slow : SlowSite) (es : List Event) → filter is_work (tries_with slow es) ≡ []
none_tried_with slow [] = refl
none_tried_with slow (e ∷ es) =
    let with = with_events slow (e ∷ es) in
    none_behind (try_with with (length (e ∷ es))) (none_with with (length (e ∷ es))) 0 with.sites

-- a world has no link, and a poll there takes nothing in
pub none_polled : (slow : SlowSite) → work_of slow command.Poll ≡ []
unfolding of_received received senders
none_polled slow = none_both (tries slow []) _ (none_tried slow []) refl

-- ---- what takes steps

-- behind them what takes none
works_then : (xs ys works : List Effect) → filter is_work xs ≡ works → filter is_work ys ≡ []
    → filter is_work (xs ++ ys) ≡ works
works_then xs ys works all none = filter-append is_work xs ys ∙ (λ i. all i ++ none i) ∙ append-nil works

all_works : (ns : Event → ℕ) (es : List Event) → filter is_work (map (λ e. Work (ns e)) es) ≡ map (λ e. Work (ns e)) es
all_works ns [] = refl
all_works ns (e ∷ es) = ap (λ (xs : List Effect). Work (ns e) ∷ xs) (all_works ns es)

-- own events take one step each
pub own_works : (slow : SlowSite) (es : List Event) (replies : List Reply)
    → filter is_work (of_own slow es replies) ≡ map (λ e. Work 1) es
own_works slow es replies =
    let ones = map (λ e. Work 1) es in
    let records = recording slow es in
    works_then (ones ++ records ++ all_said replies) (tries_with slow es) ones
    (works_then (ones ++ records) (all_said replies) ones
    (works_then ones records ones (all_works (λ e. 1) es) (none_recorded slow es)) (none_said replies))
    (none_tried_with slow es)

events_works : (slow : SlowSite) (es : List Event) → filter is_work (works_of slow es) ≡ works_of slow es
unfolding works_of
events_works slow [] = refl
events_works slow (e ∷ es) =
    filter-append is_work (map (λ e. Work (cost_of slow.held e)) (taken_as (offer slow e) e))
    (works_of (arrived slow e) es)
    ∙ (λ i. all_works (λ e. cost_of slow.held e) (taken_as (offer slow e) e) i ++ events_works (arrived slow e) es i)

-- those of a frame
pub works_of_frame : (slow : SlowSite) (f : Frame) → filter is_work (of_frame slow f) ≡ frame_works slow f
works_of_frame slow f = by (verdict slow f)
  where
    by : (v : Verdict) → filter is_work (of_verdict slow f v) ≡ works_by slow f v
    by Taken =
        let works = works_of slow f.events in
        let records = recording slow (taken slow f.events) in
        works_then (works ++ records) (all_said (events_replies slow f.events)) works
        (works_then works records works (events_works slow f.events) (none_recorded slow (taken slow f.events)))
        (none_said (events_replies slow f.events))
    by v = none_said (verdict_replies slow f v)
