use Rattle.std.proofs.Common.{ℕ, List, [], ◌∷◌, refl, sym, ◌∙◌, ap}
use Rattle.std.specs.Prelude.{option_map}
use Rattle.gd_answers.specs.Refusals.{refused_edit}
use Rattle.gd_lines.specs.Refusals.{edit_refusal}
use Rattle.gd_lines.specs.declared.command.Command.TheVariants as command
use Rattle.gd_lines.specs.declared.reply.Reply.TheVariants as reply
use Rattle.gd_reference.specs.SiteEffects.{done_replies}
use Rattle.gd_reference.specs.World.{after_line}
use Rattle.gd_world.proofs.Tells.{edit_makes, edit_refuses, tells_focus, tells_made, tells_name, tells_nothing}
use Rattle.gd_world.proofs.Tells.{tells_read, tells_refused, tells_show, tells_status, tells_who, tells_unturned}
use Rattle.gd_world.proofs.Tells.{turn_makes}
use Rattle.gd_world.proofs.telling.tell.Goals as goal

pub returns-in-Ok : goal.returns-in-Ok
unfolding after_line
returns-in-Ok g c slow stands =
    let wanted = c.in-Edit.edit in
    let made = c.in-Ok.ensures in
    let e = c.in-Ok.event in
    let says = rw c.stamp.ensures at c.only.ensures in
    tells_read _ _ _ _ _ _ (command.Edit wanted) c.in-Edit.is
    (tells_made slow (command.Edit wanted) _ _ (e ∷ []) (reply.Done e.stamp ∷ [])
    (edit_makes slow wanted e (made.answer slow stands)) says.ok says.err
    (made.stands slow stands) made.steps)

pub returns-in-Err : goal.returns-in-Err
returns-in-Err g c slow stands =
    let wanted = c.in-Edit.edit in
    let fell = c.in-Err.ensures in
    let says = rw c.edit_refusal.ensures at c.refused.ensures in
    tells_read _ _ _ _ _ _ (command.Edit wanted) c.in-Edit.is
    (tells_refused slow (command.Edit wanted) (option_map edit_refusal (refused_edit c.in-Err.fault))
    (edit_refuses slow wanted c.in-Err.fault (fell.answer slow stands)) _ says.ok says.err
    (fell.err_stands slow stands) fell.err_steps)

pub returns-in-Ok-turn : goal.returns-in-Ok-turn
unfolding after_line
returns-in-Ok-turn g c slow stands =
    let which = c.in-Turn.which in
    let made = c.in-Ok-turn.ensures in
    let es = c.in-Ok-turn.events in
    let says = rw c.as_slice.ensures at c.done.ensures in
    tells_read _ _ _ _ _ _ (command.Turn which) c.in-Turn.is
    (tells_made slow (command.Turn which) _ _ es (done_replies es) (turn_makes slow which es (made.answer slow stands))
    says.ok says.err
    (made.stands slow stands) (made.steps slow stands))

pub returns-in-Err-turn : goal.returns-in-Err-turn
returns-in-Err-turn g c slow stands =
    let which = c.in-Turn.which in
    let fell = c.in-Err-turn.ensures in
    let says = rw c.back_refusal.ensures at c.refused-in-Err-turn.ensures in
    tells_read _ _ _ _ _ _ (command.Turn which) c.in-Turn.is
    (tells_unturned slow which _ _ _ _ says.err c.in-Err-turn.fault (fell.answer slow stands) says.ok
    (fell.keeps slow stands) (fell.steps slow stands))

pub returns-in-Name : goal.returns-in-Name
returns-in-Name g c slow stands =
    let name = c.copy.result in
    tells_read _ _ _ _ _ _ (command.Name name) (c.in-Name.is ∙ ap (λ (n : List ℕ). command.Name n) (sym c.copy.ensures))
    (tells_name slow stands refl refl _ _ (c.set_name.ensures.answer slow stands.site) c.noted_reply.ensures _
    c.only-in-Name.ensures.ok c.only-in-Name.ensures.err
    name (c.set_name.ensures.stands slow stands.site))

pub returns-in-Focus : goal.returns-in-Focus
returns-in-Focus g c slow stands =
    tells_read _ _ _ _ _ _ (command.Focus c.in-Focus.focus) c.in-Focus.is
    (tells_focus slow stands refl refl _ _ (c.set_focus.ensures.answer slow stands.site) c.noted_reply-in-Focus.ensures
    _ c.only-in-Focus.ensures.ok c.only-in-Focus.ensures.err
    c.in-Focus.focus (c.set_focus.ensures.stands slow stands.site))

pub returns-in-Show : goal.returns-in-Show
returns-in-Show g c slow stands =
    tells_read _ _ _ _ _ _ command.Show c.in-Show.is
    (tells_show slow stands refl _ (c.show.ensures.ok slow stands.site) c.show.ensures.err)

pub returns-in-Status : goal.returns-in-Status
returns-in-Status g c slow stands =
    tells_read _ _ _ _ _ _ command.Status c.in-Status.is
    (tells_status slow stands refl _ (c.status-status.ensures slow stands.site) _ c.only-in-Status.ensures.ok
    c.only-in-Status.ensures.err)

pub returns-in-Who : goal.returns-in-Who
returns-in-Who g c slow stands =
    tells_read _ _ _ _ _ _ command.Who c.in-Who.is
    (tells_who slow stands refl _ (c.who.ensures.ok slow stands.site) c.who.ensures.err)

pub returns-in-Blank : goal.returns-in-Blank
returns-in-Blank g c slow stands = tells_nothing slow stands refl _ c.in-Blank.is _ c.new.ensures
