use Rattle.std.proofs.Common.{ℕ, ◌+◌, List, ◌++◌, length, refl, sym, ap, ◌∙◌, arith}
use Rattle.std.specs.List.{flat_map}
use Rattle.std.specs.Prelude.{Err}
use Rattle.gd_effects.proofs.Doing.{which_end}
use Rattle.gd_events.specs.Events.{Event}
use Rattle.gd_lines.specs.Replies.{reply_text}
use Rattle.gd_node.proofs.Edits.{ahead, carries_made}
use Rattle.gd_node.proofs.Gestures.{gesture_cut, gesture_made}
use Rattle.gd_outside.specs.declared.end.End.TheVariants.{NoMemory}
use Rattle.gd_reference.specs.SiteEffects.{gesture_replies, of_gesture}
use Rattle.gd_reference.specs.TakeBack.{after_gesture}
use Rattle.gd_node.proofs.gesturing.carry_out.Goals as goal

pub returns-in_err-gesture : goal.returns-in_err-gesture
returns-in_err-gesture g c =
    let end = c.in_err-gesture.field-0.0 in
    gesture_cut c.args.waiting.now _ c.from_residual.ensures.1
    (which_end (Err end) end NoMemory refl c.in_err-gesture.ensures.end) _ _ _
    (λ slow m. c.in_err-gesture.ensures.judged slow m.stands.site)

pub returns-in_err-events : goal.returns-in_err-events
returns-in_err-events g c =
    gesture_cut c.args.waiting.now _ c.from_residual-in_err-events.ensures.1 refl _ _ _
    (λ slow m. let h = c.in_ok-gesture.ensures.judged slow m.stands.site
    in (omega (arith, h.steps), omega (arith, h.steps)))

pub announce_all-requires : goal.announce_all-requires
announce_all-requires g c =
    let m = c.requires.met in
    let kept = c.in_ok-events.ensures in
    let both =
    gesture_made m.0 c.args.waiting.now c.requires.ranged m.1 c.judge.new.site c.in_ok-gesture.gesture
    (c.in_ok-gesture.ensures.judged m.0 m.1.stands.site)
    c.as_slice.result.now (c.as_slice.ensures ∙ kept.events) c.keep.new.self kept.kept in
    (m.0, ahead both.0 m.1 both.1.site refl)

pub returns : goal.returns
returns g c =
    let asked = c.args.waiting.now in
    let es = c.as_slice.result.now in
    let judged = c.in_ok-gesture.ensures.judged in
    let kept = c.in_ok-events.ensures in
    let met = c.requires.met in
    let first = judged met.0 met.1.stands.site in
    let es_are = c.as_slice.ensures ∙ kept.events in
    carries_made es (λ slow. gesture_replies slow asked) _ (λ slow. of_gesture slow asked)
    (λ slow. after_gesture slow asked) met
    (λ slow m. gesture_made slow asked c.requires.ranged m c.judge.new.site c.in_ok-gesture.gesture
    (judged slow m.stands.site) es es_are c.keep.new.self kept.kept)
    refl (first.steps ∙ ap (λ (l : List Event). c.args.steps.now + length l) (sym (es_are ∙ first.has.events)))
    (λ slow m.
    c.announce_all.ensures (gesture_replies slow asked)
    ((judged slow m.stands.site).said
    ∙ ap (λ (text : List ℕ). text ++ flat_map reply_text (gesture_replies slow asked)) c.new-said.ensures) _)
