-- Who shows a parting, and what a site does that has parted from another.
use Rattle.std.proofs.Common.{◌≡◌, ◌≢◌, ◌∙◌, ℕ, nat_le, Bool, true, false, not, ◌&&◌, ◌==◌, List, [], ◌∷◌, Option, None}
use Rattle.std.proofs.Common.{Some, refl, sym, ap, subst, inl, inr, ◌⊎◌, eqb-true, eq-eqb, true≢false}
use Rattle.std.proofs.lemmas.Bool.{cond_both}
use Rattle.std.specs.Prelude.{IsSome}
use Rattle.gd_backs.proofs.NextEvents.{with_events-is}
use Rattle.gd_base.specs.declared.note.Note.{Note}
use Rattle.gd_base.specs.declared.offer.Offer.{Offer}
use Rattle.gd_base.specs.declared.offer.Offer.TheVariants.{Next}
use Rattle.gd_base.specs.declared.refusal.FrameFault.{FrameFault}
use Rattle.gd_base.specs.declared.verdict.Verdict.{Verdict}
use Rattle.gd_base.specs.declared.verdict.Verdict.TheVariants.{Parted, Passed, Taken}
use Rattle.gd_events.specs.Events.{Event}
use Rattle.gd_grammar.specs.FrameBytes.{Frame}
use Rattle.gd_lines.specs.Edits.{Edit}
use Rattle.gd_lines.specs.declared.command.Turn.{Turn}
use Rattle.gd_lines.specs.declared.reply.Reply.TheVariants as reply
use Rattle.gd_reference.specs.Offers.{after_offer, after_verdict, all_arrived, arrived, finished, offer, refusal}
use Rattle.gd_reference.specs.Offers.{shows_parting, take_frame, verdict, verdict_by, with_note}
use Rattle.gd_reference.specs.SiteEffects.{frame_replies, verdict_replies}
use Rattle.gd_reference.specs.SlowSite.{SlowSite, count, held_check}
use Rattle.gd_reference.specs.TakeBack.{Asked, after_edit, after_gesture, after_turn}
use Rattle.gd_reference.specs.World.{Edits, Focuses, Line, Names, Prints, Turns, after_line, most_notes, noted}
use Rattle.gd_protocol.proofs.Lists.{put_cases, put_same}
use Rattle.gd_protocol.proofs.Steps.{own_cases}
use Rattle.gd_protocol.specs.Parting.{KeepsAllElse}

-- ---- who shows it

module _ (slow : SlowSite) (f : Frame) where
  -- the site once the frame's events have arrived
  abbrev there : SlowSite
  there = all_arrived slow f.events

  -- with as many events of the sender as the frame counts and no parting, it has the frame's check
  agrees : count there f.head.from ≡ f.head.count → shows_parting slow f ≡ false
      → held_check there f.head.from ≡ f.head.check
  unfolding shows_parting
  agrees counted none =
      let differs = not (held_check there f.head.from == f.head.check) in
      let same = eq-eqb (count there f.head.from) f.head.count counted in
      by (held_check there f.head.from == f.head.check) refl (ap (λ (b : Bool). b && differs) (sym same) ∙ none)
    where
      by : (b : Bool) → (held_check there f.head.from == f.head.check) ≡ b
          → true && not (held_check there f.head.from == f.head.check) ≡ false
          → held_check there f.head.from ≡ f.head.check
      by true is none = eqb-true _ _ is
      by false is none = absurd (true≢false (sym (ap not is) ∙ none))

pub one_of_two : (a b : SlowSite) (f g : Frame) → f.head.check ≡ g.head.check
    → count (there a f) f.head.from ≡ f.head.count → count (there b g) g.head.from ≡ g.head.count
    → held_check (there a f) f.head.from ≢ held_check (there b g) g.head.from
    → (shows_parting a f ≡ true) ⊎ (shows_parting b g ≡ true)
one_of_two a b f g same f_counted g_counted differ = by (shows_parting a f) refl (shows_parting b g) refl where
  by : (x : Bool) → shows_parting a f ≡ x → (y : Bool) → shows_parting b g ≡ y
      → (shows_parting a f ≡ true) ⊎ (shows_parting b g ≡ true)
  by true p y q = inl p
  by false p true q = inr q
  by false p false q = absurd (differ (agrees a f f_counted p ∙ same ∙ sym (agrees b g g_counted q)))

-- ---- what it does then

-- nothing is taken of a site from which it has parted
not-taken-by : (r : Option FrameFault) (parts : Bool) (k count : ℕ) → verdict_by r parts (Some k) count ≢ Taken
unfolding verdict_by
not-taken-by (Some fault) parts k count e = cc
not-taken-by None false k count e = cc
not-taken-by None true k count e =
    cond_both (k == count) Passed (Parted count) (λ (v : Verdict). v ≢ Taken) (λ same p. cc) (λ other p. cc) e

module _ (slow : SlowSite) (f : Frame) where
  abbrev before : Option ℕ
  before = slow.parted f.head.from

  -- nothing is taken, and the count is noted
  abbrev PartsNow : SlowSite → Type 0
  PartsNow new = KeepsAllElse slow new × (new.parted f.head.from ≡ Some f.head.count)

  noted_then : PartsNow (after_verdict (Parted f.head.count) slow f)
  noted_then = (refl, put_same slow.parted f.head.from (Some f.head.count) f.head.from refl)

  parts-by : (was : Option ℕ) → before ≡ was → PartsNow (after_verdict (verdict_by None true was f.head.count) slow f)
  unfolding verdict_by
  parts-by None is = noted_then
  parts-by (Some said) is =
      cond_both (said == f.head.count) Passed (Parted f.head.count)
      (λ (v : Verdict). PartsNow (after_verdict v slow f))
      (λ same. (refl, is ∙ ap Some (eqb-true said f.head.count same))) (λ other. noted_then)

  -- a frame that isn't refused and shows a parting
  module _ (fine : refusal slow f ≡ None) (shows : shows_parting slow f ≡ true) where
    parting_verdict : verdict slow f ≡ verdict_by None true before f.head.count
    unfolding verdict
    parting_verdict = λ i. verdict_by (fine i) (shows i) before f.head.count

    pub parts_now : PartsNow (take_frame slow f)
    unfolding take_frame
    parts_now = subst (λ (v : Verdict). PartsNow (after_verdict v slow f)) (sym parting_verdict) (parts-by before refl)

    says-by : (was : Option ℕ) → was ≢ Some f.head.count
        → verdict_by None true was f.head.count ≡ Parted f.head.count
    unfolding verdict_by
    says-by None new = refl
    says-by (Some said) new =
        cond_both (said == f.head.count) Passed (Parted f.head.count) (λ (v : Verdict). v ≡ Parted f.head.count)
        (λ same. absurd (new (ap Some (eqb-true said f.head.count same)))) (λ other. refl)

    pub says_it : before ≢ Some f.head.count → frame_replies slow f ≡ reply.Parted f.head.from f.head.count ∷ []
    says_it new = ap (λ (v : Verdict). verdict_replies slow f v) (parting_verdict ∙ says-by before new)

  -- once it was said at this count, nothing is said of a frame that isn't refused
  passes-by : (parts : Bool) → verdict_by None parts (Some f.head.count) f.head.count ≡ Passed
  unfolding verdict_by
  passes-by false = refl
  passes-by true = rw (eq-eqb f.head.count f.head.count refl) refl

  pub says_no_more : refusal slow f ≡ None → before ≡ Some f.head.count → frame_replies slow f ≡ []
  unfolding verdict
  says_no_more fine is =
      let named : verdict slow f ≡ verdict_by None (shows_parting slow f) (Some f.head.count) f.head.count =
      λ i. verdict_by (fine i) (shows_parting slow f) (is i) f.head.count in
      ap (λ (v : Verdict). verdict_replies slow f v) (named ∙ passes-by (shows_parting slow f))

  -- what isn't taken changes nothing else
  keeps-else : (v : Verdict) → v ≢ Taken → KeepsAllElse slow (after_verdict v slow f)
  keeps-else Taken other = absurd (other refl)
  keeps-else v other = refl

  pub parted_keeps : (k : ℕ) → before ≡ Some k → KeepsAllElse slow (take_frame slow f)
  unfolding take_frame verdict
  parted_keeps k is =
      keeps-else (verdict slow f) (λ e.
      not-taken-by (refusal slow f) (shows_parting slow f) k f.head.count
      (subst (λ (was : Option ℕ). verdict_by (refusal slow f) (shows_parting slow f) was f.head.count ≡ Taken) is e))

-- ---- it stays parted

parted_arrived : (slow : SlowSite) (e : Event) → (arrived slow e).parted ≡ slow.parted
parted_arrived slow e = go (offer slow e)
  where
    go : (o : Offer) → (after_offer o slow e).parted ≡ slow.parted
    go Next = refl
    go o = refl

parted_all_arrived : (slow : SlowSite) (es : List Event) → (all_arrived slow es).parted ≡ slow.parted
unfolding all_arrived
parted_all_arrived slow [] = refl
parted_all_arrived slow (e ∷ es) = parted_all_arrived (arrived slow e) es ∙ parted_arrived slow e

parted_finished : (slow : SlowSite) (f : Frame) → (finished slow f).parted ≡ slow.parted
parted_finished slow f =
    cond_both (count slow f.head.from == f.head.count) _ _ (λ (x : SlowSite). (with_note x f).parted ≡ slow.parted)
    (λ same. refl) (λ other. refl)

pub stays_at_frames : (slow : SlowSite) (f : Frame) (t : ℕ) → IsSome (slow.parted t)
    → IsSome ((take_frame slow f).parted t)
unfolding take_frame
stays_at_frames slow f t some = go (verdict slow f)
  where
    go : (v : Verdict) → IsSome ((after_verdict v slow f).parted t)
    go Taken =
        let there = all_arrived slow f.events in
        let same = parted_finished there f ∙ parted_all_arrived slow f.events in
        subst (λ (parted : ℕ → Option ℕ). IsSome (parted t)) (sym same) some
    go (Parted count) =
        put_cases (λ (u : ℕ) (at : Option ℕ). u ≡ t → IsSome at) slow.parted f.head.from (Some count) (λ same. refl)
        (λ u other same. subst (λ (v : ℕ). IsSome (slow.parted v)) (sym same) some) t refl
    go v = some

stays_at_own : (slow : SlowSite) → ((wish : Edit) → (after_edit slow wish).parted ≡ slow.parted)
    × ((which : Turn) → (after_turn slow which).parted ≡ slow.parted)
    × ((asked : List Asked) → (after_gesture slow asked).parted ≡ slow.parted)
stays_at_own slow =
    own_cases (λ (x : SlowSite). x.parted ≡ slow.parted) slow refl
    (λ es are backs. ap (λ (x : SlowSite). x.parted) (with_events-is slow es))

pub stays_at_gestures : (slow : SlowSite) (asked : List Asked) → (after_gesture slow asked).parted ≡ slow.parted
stays_at_gestures slow asked = (stays_at_own slow).2 asked

stays_at_notes : (slow : SlowSite) (note : Note) → (noted slow note).parted ≡ slow.parted
stays_at_notes slow note =
    cond_both (nat_le most_notes (slow.notes slow.me).number) _ _ (λ (x : SlowSite). x.parted ≡ slow.parted)
    (λ full. refl) (λ room. refl)

pub stays_at_lines : (slow : SlowSite) (line : Line) → (after_line slow line).parted ≡ slow.parted
unfolding after_line
stays_at_lines slow (Edits wish) = (stays_at_own slow).0 wish
stays_at_lines slow (Turns which) = (stays_at_own slow).1 which
stays_at_lines slow (Names name) = stays_at_notes slow _
stays_at_lines slow (Focuses focus) = stays_at_notes slow _
stays_at_lines slow Prints = refl
