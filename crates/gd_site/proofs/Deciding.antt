-- What a site decides is what the reference site decides: of edits, and of operations that take edits back.
use Rattle.std.proofs.Common.{Result, Ok, Err, ◌≡◌, Bool, true, false, cond, nat_le, length, refl, sym, ap, ◌∙◌}
use Rattle.std.proofs.Common.{subst}
use Rattle.gd_base.specs.declared.refusal.EditRefusal.{EditRefusal}
use Rattle.gd_base.specs.declared.refusal.EditRefusal.TheVariants.{ClockEnd, SessionFull}
use Rattle.gd_events.specs.Ops.{Op}
use Rattle.gd_events.specs.Events.{Event}
use Rattle.gd_events.specs.Sound.{IsSound}
use Rattle.gd_judging.specs.Faults.{EditIs}
use Rattle.gd_judging.specs.declared.faults.EditFault.{EditFault}
use Rattle.gd_judging.specs.declared.faults.EditFault.TheVariants.{Refused, Memory}
use Rattle.gd_lines.specs.Edits.{Edit}
use Rattle.gd_lines.specs.InRange.{IsEdit}
use Rattle.gd_model.specs.Backs.{back}
use Rattle.gd_protocol.proofs.WellSites.{edit_is_sound}
use Rattle.gd_reference.specs.Judging.{edit, edit_by, event_of, judged, judged_over, target, greatest_stamp_clock}
use Rattle.gd_reference.specs.Judging.{most_own_events}
use Rattle.gd_reference.specs.SlowSite.{SlowSite, own, clock}
use Rattle.gd_reference.specs.TakeBack.{back_of}
use Rattle.gd_slots.specs.Slots.{board_of}
use Rattle.gd_site.specs.Judged.{judgement, decided, may_go_on, next_by, own_event}
use Rattle.gd_site.specs.Sites.{SiteValue, StandsFor, HasSlowSite}
use Rattle.gd_site.proofs.Stands.{board_is}
use Rattle.gd_site.proofs.Starting.{drawing_is}

-- ---- the site decides as the reference site does

pub decided_is : (slow : SlowSite) (s : SiteValue) → StandsFor slow s → (wanted : Edit)
    → decided s wanted ≡ edit slow wanted
unfolding edit judged
decided_is slow s stands wanted =
    let shown = drawing_is slow s stands in
    λ i. edit_by (stands.me i) (stands.clock_is i) (stands.made i) (judged_over (target (shown i)) wanted)

pub next_by_is : (slow : SlowSite) (s : SiteValue) → StandsFor slow s → (op : Op)
    → next_by s op ≡ edit_by slow.me (clock slow) (length (own slow)) (Ok op)
next_by_is slow s stands op = λ i. edit_by (stands.me i) (stands.clock_is i) (stands.made i) (Ok op)

pub back_is : (slow : SlowSite) (s : SiteValue) → StandsFor slow s → (e : Event)
    → back e.stamp e.op (board_of s.history.document) ≡ back_of slow e
back_is slow s stands e = ap (back e.stamp e.op) (board_is slow s stands)

-- ---- an edit that it decides on becomes a sound event

abbrev on_by : Bool → Bool → Result (Unit {0}) EditRefusal
on_by a b = cond a (Err ClockEnd) (cond b (Err SessionFull) (Ok tt))

-- where it may go on, neither test holds
went_on : (a b : Bool) → on_by a b ≡ Ok tt → (a ≡ false) × (b ≡ false)
went_on true b h = cc
went_on false true h = cc
went_on false false h = (refl, refl)

decided_as : (s : SiteValue) (wanted : Edit) (r : Result Op EditRefusal) → may_go_on s ≡ Ok tt
    → judgement s wanted ≡ r → decided s wanted ≡ event_of s.peers.me s.clock s.made r
decided_as s wanted r on is =
    let tests = went_on (nat_le greatest_stamp_clock s.clock) (nat_le most_own_events s.made) on in
    rw (tests.0, tests.1) (ap (event_of s.peers.me s.clock s.made) is)

-- where it may not, the edit is refused for that
went_off : (a b : Bool) (why : EditRefusal) (r : Result Event EditRefusal) → on_by a b ≡ Err why
    → cond a (Err ClockEnd) (cond b (Err SessionFull) r) ≡ Err why
went_off true b why r h = let e : ClockEnd ≡ why = cc in ap Err e
went_off false true why r h = let e : SessionFull ≡ why = cc in ap Err e
went_off false false why r h = cc

module _ (s : SiteValue) (wanted : Edit) (on : Result (Unit {0}) EditRefusal) (on_is : on ≡ may_go_on s) where
  pub is_refused : (why : EditRefusal) → on ≡ Err why → decided s wanted ≡ Err why
  is_refused why off =
      went_off (nat_le greatest_stamp_clock s.clock) (nat_le most_own_events s.made) why
      (event_of s.peers.me s.clock s.made (judgement s wanted)) (sym on_is ∙ off)

  module _ (goes : on ≡ Ok tt) (r : Result Op EditRefusal) (r_is : r ≡ judgement s wanted) where
    -- what was judged so becomes an event by its operation
    becomes : decided s wanted ≡ event_of s.peers.me s.clock s.made r
    becomes = decided_as s wanted r (sym on_is ∙ goes) (sym r_is)

    pub is_decided : (op : Op) → r ≡ Ok op → decided s wanted ≡ Ok (own_event s op)
    is_decided op is = becomes ∙ ap (event_of s.peers.me s.clock s.made) is

    -- what becomes no operation becomes no event
    pub is_unmade : (why : EditFault) → EditIs r (Err why) → EditIs (decided s wanted) (Err why)
    is_unmade why is = subst (λ (x : Result Event EditRefusal). EditIs x (Err why)) (sym becomes) (go r why is)
      where
        go : (x : Result Op EditRefusal) (why : EditFault) → EditIs x (Err why)
            → EditIs (event_of s.peers.me s.clock s.made x) (Err why)
        go x (Refused why) is = ap (event_of s.peers.me s.clock s.made) is
        go (Ok op) Memory is = refl
        go (Err why) Memory is = cc

pub decided_sound : (s : SiteValue) → HasSlowSite s → (wanted : Edit) → IsEdit wanted → (e : Event)
    → decided s wanted ≡ Ok e → IsSound e
decided_sound s i wanted ranged e becomes =
    edit_is_sound i.slow wanted e i.stands.well ranged (sym (decided_is i.slow s i.stands wanted) ∙ becomes)
