use Rattle.std.proofs.Common.{rules, ℕ, take, ap, ◌∙◌}
use Rattle.gd_stable.specs.Outboxes.{numbered_above}
use Rattle.gd_stable.proofs.Found.{finding_start, found_next, found_full, found_all}
use Rattle.gd_stable.proofs.Numbered.{none_counted}
use Rattle.gd_stable.proofs.outbox.Outbox.after.Goals as goal

pub loop-place-init : goal.loop-place-init
loop-place-init c =
    let items = c.self.inside.events.items in
    let none = none_counted c.self.inside.numbered_on c.args.k items c.self.invariant in
    finding_start c.args.k (take c.count_to-place.result items) c.new-found.result
    (ap (λ (n : ℕ). numbered_above c.args.k (take n items)) c.count_to-place.ensures ∙ none) c.new-found.ensures

pub loop-place-preserved : goal.loop-place-preserved
loop-place-preserved c =
    let told = c.put_above.ensures in
    found_next c.args.k c.self.inside.events.items c.loop-place.place c.index.result.now (search rules) c.index.ensures
    c.loop-place.found c.put_above.new.found c.put_above.result c.loop-place.invariant told.room told.events
    c.if-not-put_above.false

pub returns-then-not-put_above : goal.returns-then-not-put_above
returns-then-not-put_above c =
    let told = c.put_above.ensures in
    rw (← c.self.view_is)
    (found_full c.args.k c.self.inside.events.items c.loop-place.place c.index.result.now (search rules) c.index.ensures
    c.loop-place.found c.put_above.new.found c.put_above.result c.loop-place.invariant told.room told.events told.sound
    c.if-not-put_above.true)

pub returns : goal.returns
returns c =
    let items = c.self.inside.events.items in
    rw (← c.self.view_is)
    (found_all c.args.k items c.loop-place.place c.loop-place.found (search rules) c.loop-place.invariant)
