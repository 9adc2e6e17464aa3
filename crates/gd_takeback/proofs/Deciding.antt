-- What a site decides of an edit is its next event.
use Rattle.std.proofs.Common.{◌≡◌, ℕ, Bool, false, cond, Result, Ok, Err, nat_le, sym, ap, ◌∙◌}
use Rattle.gd_base.specs.declared.refusal.EditRefusal.{EditRefusal}
use Rattle.gd_base.specs.declared.refusal.EditRefusal.TheVariants.{ClockEnd, SessionFull}
use Rattle.gd_events.specs.Events.{Event}
use Rattle.gd_events.specs.Ops.{Op}
use Rattle.gd_lines.specs.Edits.{Edit}
use Rattle.gd_reference.specs.Judging.{event_of, greatest_stamp_clock, most_own_events, next_event}
use Rattle.gd_site.specs.Judged.{decided, judgement, own_event}
use Rattle.gd_site.specs.Sites.{SiteValue}

own_by : (a b : Bool) (me clock made : ℕ) (r : Result Op EditRefusal) (e : Event)
    → cond a (Err ClockEnd) (cond b (Err SessionFull) (event_of me clock made r)) ≡ Ok e
    → e ≡ next_event me clock made e.op
own_by false false me clock made (Ok op) e h =
    let is : next_event me clock made op ≡ e = cc in
    sym is ∙ ap (λ (x : Event). next_event me clock made x.op) is
own_by a b me clock made r e h = cc

-- an edit that becomes an event becomes the next one
pub decided_is_own : (s : SiteValue) (wanted : Edit) (e : Event) → decided s wanted ≡ Ok e → e ≡ own_event s e.op
decided_is_own s wanted e is =
    own_by (nat_le greatest_stamp_clock s.clock) (nat_le most_own_events s.made) s.peers.me s.clock s.made
    (judgement s wanted) e is
