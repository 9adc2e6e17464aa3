use Rattle.std.proofs.Common.{[], ◌∷◌, refl, sym, ◌∙◌, ap, subst}
use Rattle.gd_effects.proofs.Doing.{does_as, on_ok}
use Rattle.gd_effects.proofs.OneRecord.{none_done}
use Rattle.gd_lines.specs.declared.reply.Reply.TheVariants as reply
use Rattle.gd_reference.specs.Said.{says}
use Rattle.gd_viewer.specs.Viewers.{StandsFor}
use Rattle.gd_viewing.specs.SlowViewer.{SlowViewer, viewer_taken}
use Rattle.gd_viewing.specs.Viewing.{after_item, after_item_read, of_item_read}
use Rattle.gd_watch.proofs.TakingLemmas.{on_ok_map}
use Rattle.gd_watch.proofs.taking.take_item.Goals as goal

pub take_frame-requires : goal.take_frame-requires
take_frame-requires g c = c.requires

pub returns-in-Ok-clause-does : goal.returns-in-Ok-clause-does
returns-in-Ok-clause-does g c slow stands input journal link =
    does_as (ap (of_item_read slow c.args.bytes.now) c.in-Ok.ensures.read)
    (c.take_frame.ensures.does slow stands input journal link)

pub returns-in-Ok-clause-stands : goal.returns-in-Ok-clause-stands
returns-in-Ok-clause-stands g c =
    on_ok_map {P = (slow : SlowViewer) → StandsFor slow c.args.viewer.now
    → StandsFor (viewer_taken slow c.in-Ok.frame) c.take_frame.new.viewer}
    {Q = (slow : SlowViewer) → StandsFor slow c.args.viewer.now
    → StandsFor (after_item slow c.args.bytes.now) c.take_frame.new.viewer} _
    (λ reached slow stands. subst (λ (s : SlowViewer). StandsFor s c.take_frame.new.viewer)
    (sym (ap (after_item_read slow) c.in-Ok.ensures.read)) (reached slow stands)) c.take_frame.ensures.stands

pub returns-in-Err-Fault-clause-does : goal.returns-in-Err-Fault-clause-does
returns-in-Err-Fault-clause-does g c slow stands input journal link =
    let read = rw c.in-Err-Fault.field-0-is at c.in-Err-Fault.ensures.read in
    does_as (ap (of_item_read slow c.args.bytes.now) read.1
    ∙ ap (λ fault. says (reply.BadFrame fault) ∷ []) (sym read.2))
    (rw c.in-Err-Fault.fault-is at (c.say.ensures input journal link c.args.steps.now))

pub returns-in-Err-Fault-clause-stands : goal.returns-in-Err-Fault-clause-stands
returns-in-Err-Fault-clause-stands g c =
    let read = rw c.in-Err-Fault.field-0-is at c.in-Err-Fault.ensures.read in
    on_ok {P = (slow : SlowViewer) → StandsFor slow c.args.viewer.now
    → StandsFor (after_item slow c.args.bytes.now) c.args.viewer.now} _
    (λ slow stands. subst (λ (s : SlowViewer). StandsFor s c.args.viewer.now) (sym (ap (after_item_read slow) read.1))
    stands)

pub returns-in-Err-Memory-clause-does : goal.returns-in-Err-Memory-clause-does
returns-in-Err-Memory-clause-does g c slow stands input journal link = none_done input _ journal link _ refl
