use Rattle.std.proofs.Common.{◌∙◌, ap}
use Rattle.gd_grammar.specs.declared.frame.Head.{Head}
use Rattle.gd_stable.specs.Heard.{with_beat}
use Rattle.gd_viewer.proofs.Beating.{beaten_line, beaten_is_viewer, beat_stands, some_beaten}
use Rattle.gd_viewer.proofs.viewer.Viewer.beat.Goals as goal

pub line_of-line-requires : goal.line_of-line-requires
line_of-line-requires c =
    let heard = c.beat.ensures
    ∙ ap (λ (h : Head). with_beat c.self.inside.heard h.from h.count h.clock) c.head-head.ensures.head in
    some_beaten _ c.args.frame.now c.beat.new.self heard c.self.invariant

pub trim-requires : goal.trim-requires
trim-requires c =
    let i = c.self.invariant in
    let inside = rw (← c.self.view_is) at c.requires in
    let heard = c.beat.ensures
    ∙ ap (λ (h : Head). with_beat c.self.inside.heard h.from h.count h.clock) c.head-head.ensures.head in
    beaten_line _ c.args.frame.now c.beat.new.self c.line_of-line.result
    (record { inside = inside; sized = i.heard; heard_is = heard; line_is = c.line_of-line.ensures }) i

pub invariant_of-self : goal.invariant_of-self
invariant_of-self c =
    let i = c.self.invariant in
    let inside = rw (← c.self.view_is) at c.requires in
    let heard = c.beat.ensures
    ∙ ap (λ (h : Head). with_beat c.self.inside.heard h.from h.count h.clock) c.head-head.ensures.head in
    let m = c.trim.ensures in
    beaten_is_viewer _ c.args.frame.now c.beat.new.self c.line_of-line.result
    (record { inside = inside; sized = i.heard; heard_is = heard; line_is = c.line_of-line.ensures })
    c.trim.new.self (record { entries = m.entries; document = m.document; line = m.line }) i

pub returns : goal.returns
returns c =
    let i = c.self.invariant in
    let inside = rw (← c.self.view_is) at c.requires in
    let heard = c.beat.ensures
    ∙ ap (λ (h : Head). with_beat c.self.inside.heard h.from h.count h.clock) c.head-head.ensures.head in
    let m = c.trim.ensures in
    rw (← c.self.view_is) (record {
      stands = λ slow stands.
          beat_stands _ c.args.frame.now c.beat.new.self c.line_of-line.result
          (record { inside = inside; sized = i.heard; heard_is = heard; line_is = c.line_of-line.ensures })
          slow stands c.trim.new.self (record { entries = m.entries; document = m.document; line = m.line });
    })
