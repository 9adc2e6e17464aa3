use Rattle.std.proofs.Common.{◌≡◌, ◌+◌, ◌∙◌, ℕ, List, ap, arith, subst, sym}
use Rattle.std.specs.Prelude.{IfOk}
use Rattle.gd_base.specs.Sites.{IsSite}
use Rattle.gd_events.specs.Events.{Event}
use Rattle.gd_events.specs.Sound.{IsOp}
use Rattle.gd_events.specs.Ops.{Op}
use Rattle.gd_history.specs.Entries.{AllOf, events_of}
use Rattle.gd_model.specs.Arrivals.{all_drawn}
use Rattle.gd_reference.specs.SlowSite.{kept}
use Rattle.gd_repair.specs.Repair.{Stamped}
use Rattle.gd_site.proofs.Stands.{History}
use Rattle.gd_stable.specs.Heard.{of_site}
use Rattle.gd_capture.specs.Numbering.{numbered, tally}
use Rattle.gd_capture.proofs.Capturing.{entries_kept, entries_ops}
use Rattle.gd_capture.proofs.Keeping.{kept_numbered, tally_few}
use Rattle.gd_capture.proofs.Numbering.{Entries}
use Rattle.gd_capture.proofs.kept.kept_of.Goals as goal

pub take_off-requires-clause-room : goal.take_off-requires-clause-room
take_off-requires-clause-room c t is =
    let slow = c.stands.ensures.slow in
    let stands = c.stands.ensures.stands in
    let counts = c.counts_of-numbers.ensures slow stands in
    let entries = c.entries-entries.ensures.entries ∙ ap (λ (h : History). h.entries) c.history.ensures.history in
    let events = ap (λ (xs : Entries). events_of xs) entries ∙ entries_kept slow c.args.site.now stands in
    omega (arith, ap (tally t) events, tally_few slow stands.well t, counts.counted t is)

pub number_all-requires-clause-sound : goal.number_all-requires-clause-sound
number_all-requires-clause-sound c =
    let slow = c.stands.ensures.slow in
    let stands = c.stands.ensures.stands in
    let entries = c.entries-entries.ensures.entries ∙ ap (λ (h : History). h.entries) c.history.ensures.history in
    subst (λ (xs : Entries). AllOf (λ (e : Stamped Op). IsOp e.stamp e.op) (events_of xs)) (sym entries)
    (entries_ops slow c.args.site.now stands)

pub returns : goal.returns
returns c slow stands =
    let numbers = c.counts_of-numbers.result in
    let left = c.take_off.new.numbers in
    let entries = c.entries-entries.ensures.entries ∙ ap (λ (h : History). h.entries) c.history.ensures.history in
    let events = ap (λ (xs : Entries). events_of xs) entries ∙ entries_kept slow c.args.site.now stands in
    let takes : (t : ℕ) → IsSite t → of_site left t + tally t (all_drawn (kept slow)) ≡ of_site numbers t
    = λ t is. ap (λ (es : List (Stamped Op)). of_site left t + tally t es) (sym events)
    ∙ c.take_off.ensures.left t is in
    let all = kept_numbered slow stands.well numbers left (c.counts_of-numbers.ensures slow stands)
    c.take_off.ensures.sized takes in
    subst (λ (l : List Event). IfOk c.number_all.result (λ es. es ≡ l)) (ap (numbered left) events ∙ all)
    c.number_all.ensures
