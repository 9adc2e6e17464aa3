-- An edit alone is a gesture of one.
use Rattle.std.proofs.Common.{◌≡◌, List, [], ◌∷◌, Result, Ok, Err, refl, sym, ap, ◌∙◌}
use Rattle.gd_backs.proofs.OneGesture.{edit_made, edit_site}
use Rattle.gd_base.specs.declared.refusal.EditRefusal.{EditRefusal}
use Rattle.gd_events.specs.Events.{Event}
use Rattle.gd_lines.specs.Edits.{Edit}
use Rattle.gd_lines.specs.declared.reply.Reply.{Reply}
use Rattle.gd_lines.specs.declared.reply.Reply.TheVariants as reply
use Rattle.gd_reference.specs.Judging.{edit}
use Rattle.gd_reference.specs.SiteEffects.{asked_replies, asked_reply, edit_reply, of_gesture, of_own}
use Rattle.gd_reference.specs.SlowSite.{SlowSite}
use Rattle.gd_reference.specs.TakeBack.{after_edit, after_gesture, events_in, made, or_refusal}

same_reply : (r : Result Event EditRefusal) → asked_reply (or_refusal r) ≡ edit_reply r
same_reply (Ok e) = refl
same_reply (Err why) = refl

pub one_edit : (slow : SlowSite) (wanted : Edit)
    → of_gesture slow (Ok wanted ∷ [])
    ≡ of_own slow (events_in (edit slow wanted)) (edit_reply (edit slow wanted) ∷ reply.End 1 ∷ [])
unfolding asked_replies
one_edit slow wanted =
    ap (λ (first : Reply). of_own slow (made slow (Ok wanted ∷ [])) (first ∷ reply.End 1 ∷ []))
    (same_reply (edit slow wanted))
    ∙ ap (λ (es : List Event). of_own slow es (edit_reply (edit slow wanted) ∷ reply.End 1 ∷ []))
    (sym (edit_made slow wanted))

-- and it leaves the same
pub edit_leaves : (slow : SlowSite) (wanted : Edit) → after_gesture slow (Ok wanted ∷ []) ≡ after_edit slow wanted
edit_leaves slow wanted = sym (edit_site slow wanted)
