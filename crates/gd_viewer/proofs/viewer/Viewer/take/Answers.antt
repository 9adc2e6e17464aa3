use Rattle.std.proofs.Common.{◌+◌, ◌∙◌, ap, ap₂}
use Rattle.gd_base.specs.Stamps.{Stamp}
use Rattle.gd_history.specs.Histories.{arrival_of}
use Rattle.gd_repair.specs.Repair.{cost}
use Rattle.gd_stable.specs.Heard.{with_taken}
use Rattle.gd_viewer.proofs.Standing.{outcome_is, viewer_same}
use Rattle.gd_viewer.proofs.Taking.{above_line, is_fresh, is_later, has_room, some_taken, taken_above, taken_is_viewer}
use Rattle.gd_viewer.proofs.Taking.{taken_line, taken_stands}
use Rattle.gd_viewer.proofs.viewer.Viewer.take.Goals as goal

pub arrive-requires-clause-above : goal.arrive-requires-clause-above
arrive-requires-clause-above g c =
    let i = c.self.invariant in
    let inside = rw (← c.self.view_is) at c.requires.inside in
    let next = rw (← c.self.view_is) at c.requires.next in
    rw c.stamp-stamp.ensures (above_line _ c.args.event.now c.op.ensures.sound inside next i.slow i.stands)

pub arrive-requires-clause-fresh : goal.arrive-requires-clause-fresh
arrive-requires-clause-fresh g c =
    let i = c.self.invariant in
    let inside = rw (← c.self.view_is) at c.requires.inside in
    let next = rw (← c.self.view_is) at c.requires.next in
    rw c.stamp-stamp.ensures (is_fresh _ c.args.event.now c.op.ensures.sound inside next i.slow i.stands)

pub invariant_of-self : goal.invariant_of-self
invariant_of-self g c =
    let e = c.in_err-arrival.ensures in
    viewer_same _ c.self.invariant c.arrive.new.self
    (record { entries = e.err_entries; document = e.err_document; line = e.line })

pub took-requires-clause-site : goal.took-requires-clause-site
took-requires-clause-site g c =
    let inside = rw (← c.self.view_is) at c.requires.inside in
    rw (c.site.ensures.value, c.stamp-stamp.ensures) inside

pub took-requires-clause-rises : goal.took-requires-clause-rises
took-requires-clause-rises g c =
    let next = rw (← c.self.view_is) at c.requires.next in
    rw (c.site.ensures.value, c.clock.ensures.value, c.stamp-stamp.ensures) (is_later _ _ c.args.event.now next)

pub took-requires-clause-room : goal.took-requires-clause-room
took-requires-clause-room g c =
    let next = rw (← c.self.view_is) at c.requires.next in
    rw (c.site.ensures.value, c.stamp-stamp.ensures) (has_room _ _ c.args.event.now c.op.ensures.sound next)

pub line_of-line-requires : goal.line_of-line-requires
line_of-line-requires g c = some_taken _ _ _ c.took.new.self c.took.ensures c.self.invariant

pub trim-requires : goal.trim-requires
trim-requires g c =
    let i = c.self.invariant in
    let inside = rw (← c.self.view_is) at c.requires.inside in
    let next = rw (← c.self.view_is) at c.requires.next in
    let e = rw (c.stamp-stamp.ensures, c.in_ok-kept.ensures, c.op.ensures.op) at c.in_ok-arrival.ensures in
    let clock = c.clock.ensures.value ∙ ap (λ (x : Stamp). x.clock) c.stamp-stamp.ensures in
    let site = c.site.ensures.value ∙ ap (λ (x : Stamp). x.site) c.stamp-stamp.ensures in
    taken_line _ c.args.event.now c.arrive.new.self c.took.new.self c.line_of-line.result
    (record {
      sound = c.op.ensures.sound;
      inside = inside;
      next = next;
      sized = i.heard;
      heard_is = c.took.ensures ∙ ap₂ (with_taken c.self.inside.heard) site clock;
      higher_is = c.line_of-line.ensures;
      enters = record { entries = e.entries; document = e.document; line = e.line };
    }) i

pub invariant_of-self-2 : goal.invariant_of-self-2
invariant_of-self-2 g c =
    let i = c.self.invariant in
    let inside = rw (← c.self.view_is) at c.requires.inside in
    let next = rw (← c.self.view_is) at c.requires.next in
    let e = rw (c.stamp-stamp.ensures, c.in_ok-kept.ensures, c.op.ensures.op) at c.in_ok-arrival.ensures in
    let clock = c.clock.ensures.value ∙ ap (λ (x : Stamp). x.clock) c.stamp-stamp.ensures in
    let site = c.site.ensures.value ∙ ap (λ (x : Stamp). x.site) c.stamp-stamp.ensures in
    let m = c.trim.ensures in
    taken_is_viewer _ c.args.event.now c.arrive.new.self c.took.new.self c.line_of-line.result
    (record {
      sound = c.op.ensures.sound;
      inside = inside;
      next = next;
      sized = i.heard;
      heard_is = c.took.ensures ∙ ap₂ (with_taken c.self.inside.heard) site clock;
      higher_is = c.line_of-line.ensures;
      enters = record { entries = e.entries; document = e.document; line = e.line };
    }) c.trim.new.self (record { entries = m.entries; document = m.document; line = m.line }) i

pub returns-clause-stands : goal.returns-clause-stands
returns-clause-stands g c =
    let i = c.self.invariant in
    let inside = rw (← c.self.view_is) at c.requires.inside in
    let next = rw (← c.self.view_is) at c.requires.next in
    let e = rw (c.stamp-stamp.ensures, c.in_ok-kept.ensures, c.op.ensures.op) at c.in_ok-arrival.ensures in
    let clock = c.clock.ensures.value ∙ ap (λ (x : Stamp). x.clock) c.stamp-stamp.ensures in
    let site = c.site.ensures.value ∙ ap (λ (x : Stamp). x.site) c.stamp-stamp.ensures in
    let m = c.trim.ensures in
    rw (← c.self.view_is)
    (taken_stands _ c.args.event.now c.arrive.new.self c.took.new.self c.line_of-line.result
    (record {
      sound = c.op.ensures.sound;
      inside = inside;
      next = next;
      sized = i.heard;
      heard_is = c.took.ensures ∙ ap₂ (with_taken c.self.inside.heard) site clock;
      higher_is = c.line_of-line.ensures;
      enters = record { entries = e.entries; document = e.document; line = e.line };
    }) c.trim.new.self (record { entries = m.entries; document = m.document; line = m.line }))

pub returns-clause-answer : goal.returns-clause-answer
returns-clause-answer g c =
    let inside = rw (← c.self.view_is) at c.requires.inside in
    let next = rw (← c.self.view_is) at c.requires.next in
    let e = rw (c.stamp-stamp.ensures, c.in_ok-kept.ensures, c.op.ensures.op) at c.in_ok-arrival.ensures in
    rw (← c.self.view_is)
    (λ slow stands. e.outcome
    ∙ ap arrival_of (outcome_is slow _ stands c.args.event.now
    (taken_above _ c.args.event.now c.op.ensures.sound inside next slow stands)))

pub returns-clause-steps : goal.returns-clause-steps
returns-clause-steps g c =
    let inside = rw (← c.self.view_is) at c.requires.inside in
    let next = rw (← c.self.view_is) at c.requires.next in
    let e = rw (c.stamp-stamp.ensures, c.in_ok-kept.ensures, c.op.ensures.op) at c.in_ok-arrival.ensures in
    rw (← c.self.view_is)
    (λ slow stands. e.steps
    ∙ ap (λ o. c.args.steps.now + cost o)
    (outcome_is slow _ stands c.args.event.now
    (taken_above _ c.args.event.now c.op.ensures.sound inside next slow stands)))
