use Rattle.std.proofs.Common.{◌+◌, length, refl, sym, ◌∙◌, ap}
use Rattle.std.specs.List.{flat_map}
use Rattle.std.specs.Prelude.{option_map}
use Rattle.gd_answers.specs.Refusals.{refused_turn}
use Rattle.gd_dialogue.proofs.Carrying.{carries_exit}
use Rattle.gd_lines.specs.Replies.{reply_text}
use Rattle.gd_node.proofs.Edits.{ahead, carries_made, carries_part, carries_refused, pays_made, turn_leaves, turn_makes}
use Rattle.gd_reference.specs.SiteEffects.{done_replies, of_turn}
use Rattle.gd_reference.specs.TakeBack.{after_turn, back_refusal}
use Rattle.gd_reference.specs.World.{after_line}
use Rattle.gd_node.proofs.editing.take_turn.Goals as goal

pub returns-in-Err : goal.returns-in-Err
unfolding after_line
returns-in-Err g c =
    let which = c.args.which in
    let why = c.in-Err.fault in
    let fell = c.in-Err.ensures in
    carries_refused (option_map back_refusal (refused_turn why)) _ (λ slow. of_turn slow which)
    (λ slow. after_turn slow which) _ _
    (λ slow m. turn_leaves slow _ _ _ which why (fell.answer slow m.stands) (fell.keeps slow m.stands)
    (fell.steps slow m.stands)) refl (rw c.back_refusal.ensures at c.refuse.ensures)

pub returns-in_err-said : goal.returns-in_err-said
unfolding after_line
returns-in_err-said g c =
    let which = c.args.which in
    let es = c.in-Ok.events in
    let made = c.in-Ok.ensures in
    carries_exit _ c.from_residual.ensures.1
    (carries_part (λ slow. of_turn slow which) (λ slow. after_turn slow which) _ _ _
    (λ slow m. pays_made (turn_makes slow which es es refl (made.answer slow m.stands)) (made.steps slow m.stands)))

pub announce_all-requires : goal.announce_all-requires
announce_all-requires g c =
    let m = c.requires in
    let made = c.in-Ok.ensures in (
      m.0,
      ahead (turn_makes m.0 c.args.which c.in-Ok.events c.as_slice-2.result.now c.as_slice-2.ensures
          (made.answer m.0 m.1.stands)) m.1 (made.stands m.0 m.1.stands).site refl,
    )

pub returns : goal.returns
unfolding after_line
returns g c =
    let which = c.args.which in
    let m = c.requires in
    let es = c.as_slice-2.result.now in
    let made = c.in-Ok.ensures in
    carries_made es (λ slow. done_replies es) _ (λ slow. of_turn slow which) (λ slow. after_turn slow which) m
    (λ slow m. (
      turn_makes slow which c.in-Ok.events es c.as_slice-2.ensures (made.answer slow m.stands),
      made.stands
          slow m.stands,
    )) refl
    (made.steps m.0 m.1.stands ∙ ap (λ l. c.args.steps.now + length l) (sym c.as_slice-2.ensures))
    (λ slow m. c.announce_all.ensures (done_replies es)
    (c.in_ok-said.ensures
    ∙ ap (λ l. flat_map reply_text (done_replies l)) (c.as_slice.ensures ∙ sym c.as_slice-2.ensures)) _)
