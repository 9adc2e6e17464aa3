-- An edit is a gesture of one.
use Rattle.std.proofs.Common.{◌≡◌, List, [], ◌∷◌, Ok, sym, ap, ◌∙◌, append-nil}
use Rattle.gd_events.specs.Events.{Event}
use Rattle.gd_lines.specs.Edits.{Edit}
use Rattle.gd_reference.specs.Backs.{with_gesture}
use Rattle.gd_reference.specs.Judging.{edit}
use Rattle.gd_reference.specs.SlowSite.{SlowSite}
use Rattle.gd_reference.specs.TakeBack.{Asked, after_edit, after_gesture, backs_of, events_in, made, with_events}
use Rattle.gd_reference.specs.TakeBack.{with_made}
use Rattle.gd_backs.proofs.NextEvents.{events-or_refusal}

pub edit_made : (slow : SlowSite) (wanted : Edit) → events_in (edit slow wanted) ≡ made slow (Ok wanted ∷ [])
unfolding made
edit_made slow wanted = sym (append-nil _ ∙ events-or_refusal (edit slow wanted))

pub edit_site : (slow : SlowSite) (wanted : Edit) → after_edit slow wanted ≡ after_gesture slow (Ok wanted ∷ [])
unfolding after_edit after_gesture
edit_site slow wanted = ap (λ (es : List Event). with_made slow es with_gesture) (edit_made slow wanted)

pub none_made : (slow : SlowSite) (asked : List Asked) → made slow asked ≡ [] → after_gesture slow asked ≡ slow
unfolding after_gesture with_events backs_of
none_made slow asked none = ap (λ (es : List Event). with_made slow es with_gesture) none
