-- A delivery in a world in memory: the receiver is a site of it, takes the mail, and refuses nothing.
use Rattle.std.proofs.Common.{◌≡◌, ℕ, zero, suc, ◌+◌, ◌-◌, ◌≤◌, Bool, true, false, List, [], ◌∷◌, length, set, get_or}
use Rattle.std.proofs.Common.{slice_get, refl, sym, ◌∙◌, ap, subst, arith}
use Rattle.std.proofs.lemmas.Bool.{ne_eqb}
use Rattle.std.specs.List.{AllByRecursion, filter}
use Rattle.std.specs.Prelude.{Option, None, Some, Result, Ok, Err, IfOk, OnOk, nat_eq, if◌then◌else◌}
use Rattle.std.specs.Result.{is_err}
use Rattle.gd_answers.specs.Paying.{PaysFront, frame_works}
use Rattle.gd_base.proofs.Lists.{Every-append, Every-at}
use Rattle.gd_base.proofs.SiteLemmas.{is_site-bounds}
use Rattle.gd_base.specs.Sites.{is_site}
use Rattle.gd_base.specs.declared.offer.Offer.{Offer}
use Rattle.gd_base.specs.declared.offer.Offer.TheVariants.{Next, Repeat, Gap, Backdated}
use Rattle.gd_effects.specs.Effects.{Effect, cost}
use Rattle.gd_events.specs.Events.{Event}
use Rattle.gd_events.specs.Ops.{Op}
use Rattle.gd_grammar.specs.FrameBytes.{Frame}
use Rattle.gd_grammar.specs.declared.frame.Head.{Head}
use Rattle.gd_lines.specs.declared.command.ScriptLine.TheVariants as script
use Rattle.gd_lines.specs.declared.reply.Reply.{Reply}
use Rattle.gd_model.specs.Arrivals.{outcome_of}
use Rattle.gd_protocol.proofs.Interleavings.{all_on_time, all_taken}
use Rattle.gd_protocol.specs.Kept.{IsMail}
use Rattle.gd_protocol.specs.Laws.{IsOnTime}
use Rattle.gd_reference.specs.Offers.{arrived, offer, offers, take_frame}
use Rattle.gd_reference.specs.SiteEffects.{echo, events_replies, frame_replies, offer_replies, verdict_replies}
use Rattle.gd_reference.specs.SlowSite.{SlowSite}
use Rattle.gd_reference.specs.World.{Deliver, World, delivered, happens, with_site}
use Rattle.gd_repair.specs.Repair.{Stamped, Outcome, applied, dropped, reworked}
use Rattle.gd_takeback.specs.Standing.{StandsWith}
use Rattle.gd_world.proofs.Members.{changed, kept, member_of, member_read}
use Rattle.gd_world.proofs.Works.{works_of_frame}
use Rattle.gd_world.specs.Answers.{DeliverIs, IsEcho}
use Rattle.gd_world.specs.Calls.{Comes}
use Rattle.gd_world.specs.Hearing.{Hears}
use Rattle.gd_world.specs.Standing.{HasWorld, StandsFor, WorldValue}
use Rattle.gd_world.specs.declared.fault.WorldFault.{WorldFault}
use Rattle.gd_world.specs.declared.fault.WorldFault.TheVariants.{NoSite, NoMail, NoMemory}
use Rattle.gd_world.specs.declared.member.Member.{Member}
use Rattle.gd_worlds.specs.Rehearsal.{after_script, is_work, mail_of, of_delivery, script_work}

-- ---- what is said of a mail

echo_is : (e : Event) (o : Outcome (Stamped Op)) → IsEcho (echo e o)
echo_is e applied = tt
echo_is e (dropped c) = tt
echo_is e (reworked cs) = tt

echo_offer : (held : List Event) (e : Event) (o : Offer) → IsOnTime o → AllByRecursion IsEcho (offer_replies held e o)
echo_offer held e Next h = (echo_is e (outcome_of held e), tt)
echo_offer held e Repeat h = tt
echo_offer held e Gap h = tt
echo_offer held e (Backdated clock sure) h = absurd h

echo_events : (slow : SlowSite) (es : List Event) → AllByRecursion IsOnTime (offers slow es)
    → AllByRecursion IsEcho (events_replies slow es)
unfolding offers events_replies
echo_events slow [] h = tt
echo_events slow (e ∷ es) h =
    Every-append IsEcho (offer_replies slow.held e (offer slow e)) (events_replies (arrived slow e) es)
    (echo_offer slow.held e (offer slow e) h.0) (echo_events (arrived slow e) es h.1)

-- ---- a mail

found : (w : World) (f : Frame) (number : ℕ) → mail_of w number ≡ Some f
    → (k : ℕ) × (number ≡ suc k) × (slice_get w.mail k ≡ Some f)
found w f zero e = absurd cc
found w f (suc k) e = (k, refl, e)

-- a mail of that number was got out of these
abbrev pub IsGot : List Frame → ℕ → Frame → Type 0
IsGot mails number f = Some f ≡ (if nat_eq number 0 then None else slice_get mails (number - 1))

pub is_got : (mails : List Frame) (number : ℕ) (f : Frame) (got : Option Frame) → got ≡ Some f
    → got ≡ (if nat_eq number 0 then None else slice_get mails (number - 1)) → IsGot mails number f
is_got mails number f got some is = sym some ∙ is

module _ (w : World) (v : WorldValue) (st : StandsFor w v) (number : ℕ) (f : Frame) (got : IsGot v.mail number f) where
  is_mail : mail_of w number ≡ Some f
  is_mail = by number got
    where
      by : (number : ℕ) → IsGot v.mail number f → mail_of w number ≡ Some f
      by zero is = sym is
      by (suc k) is =
          let test : nat_eq (suc k) 0 ≡ false = ne_eqb (suc k) 0 (λ e. omega (arith, e)) in
          let place : suc k - 1 ≡ k = omega arith in
          sym (is ∙ ap (λ (zeroth : Bool). if zeroth then None else slice_get v.mail (suc k - 1)) test
          ∙ ap (slice_get v.mail) place ∙ ap (λ (l : List Frame). slice_get l k) st.mail)

  mail : IsMail w f
  mail = let at = found w f number is_mail in Every-at (IsMail w) w.mail at.0 f (kept w v st).mails at.2

  inside : is_site (length v.members) f.head.to ≡ true
  inside = subst (λ (n : ℕ). is_site n f.head.to ≡ true) (sym st.members) mail.to

  -- its receiver is a site
  pub within : (1 ≤ f.head.to) × (f.head.to ≤ length v.members)
  within = is_site-bounds (length v.members) f.head.to inside

  -- it is taken, and none of its events is backdated
  echoes : (rs : List Reply) → rs ≡ frame_replies (w.at f.head.to) f → AllByRecursion IsEcho rs
  echoes rs said =
      let at = found w f number is_mail in
      let taken = ap (verdict_replies (w.at f.head.to) f) (all_taken w (kept w v st) at.0 f at.2) in
      subst (AllByRecursion IsEcho) (sym (said ∙ taken))
      (echo_events (w.at f.head.to) f.events (all_on_time w (kept w v st) at.0 f at.2))

-- a mail of that number, the place of its receiver, and the member there
pub record IsHanded (v : WorldValue) (number : ℕ) (f : Frame) (place : ℕ) (member : Member) : Type 0 where
  pub got : IsGot v.mail number f
  pub place_is : place ≡ f.head.to
  pub read : member ≡ get_or v.members (place - 1) member

pub handed : (v : WorldValue) (number : ℕ) (f : Frame) (got : Option Frame) → got ≡ Some f
    → got ≡ (if nat_eq number 0 then None else slice_get v.mail (number - 1))
    → (place : ℕ) (head : Head) → place ≡ head.to → head ≡ f.head → (member : Member)
    → member ≡ get_or v.members (place - 1) member → IsHanded v number f place member
handed v number f got some is place head there same member read = record {
  got = is_got v.mail number f got some is;
  place_is = there ∙ ap (λ (h : Head). h.to) same;
  read = read;
}

module _ (w : World) (v : WorldValue) (st : StandsFor w v) (number : ℕ) (f : Frame) (place : ℕ) (member : Member)
    (h : IsHanded v number f place member) where
  here : mail_of w number ≡ Some f
  here = is_mail w v st number f h.got

  pub receiver : StandsWith (w.at f.head.to) member.site member.backs
  receiver =
      member_of w v st f.head.to member (mail w v st number f h.got).to
      (member_read v.members f.head.to place member (inside w v st number f h.got) h.place_is h.read)

  -- its steps
  works : script_work w (Ok (script.Deliver number)) ≡ frame_works (w.at f.head.to) f
  works = ap (λ (o : Option Frame). filter is_work (of_delivery w o)) here ∙ works_of_frame (w.at f.head.to) f

  happens_is : (k : ℕ) → slice_get w.mail k ≡ Some f
      → happens w (Deliver k) ≡ with_site w (place - 1 + 1) (take_frame (w.at f.head.to) f)
  unfolding happens
  happens_is k e =
      let there : f.head.to ≡ place - 1 + 1 = omega (arith, (within w v st number f h.got).0, h.place_is) in
      ap (delivered w) e ∙ ap (λ (t : ℕ). with_site w t (take_frame (w.at f.head.to) f)) there

  module _ (new : Member) where
    abbrev pub left : WorldValue
    left = record { members = set v.members (place - 1) new; mail = v.mail }

    -- the world once that one has taken it
    taken_stands : StandsWith (take_frame (w.at f.head.to) f) new.site new.backs
        → StandsFor (after_script w (Ok (script.Deliver number))) left
    taken_stands stands =
        let at = found w f number here in
        subst (λ (n : ℕ). StandsFor (after_script w (Ok (script.Deliver n))) left) (sym at.1)
        (changed w v st (Deliver at.0) tt (place - 1) (take_frame (w.at f.head.to) f) new stands (happens_is at.0 at.2))

    abbrev DidHear : Result (List Reply) WorldFault → ℕ → ℕ → Type 0
    DidHear result before after = Hears (w.at f.head.to) f result before new after

    pub delivery_is : (result : Result (List Reply) WorldFault) (before after : ℕ) → DidHear result before after
        → DeliverIs w number result
    delivery_is (Ok replies) before after heard = (f, here, heard.0)
    delivery_is (Err NoMemory) before after heard = rw here refl
    delivery_is (Err NoSite) before after heard = absurd heard
    delivery_is (Err NoMail) before after heard = absurd heard

    pub delivery_comes : (result : Result (List Reply) WorldFault) (before after : ℕ) → DidHear result before after
        → (old value : WorldValue) → OnOk result (value ≡ left)
        → Comes (after_script w (Ok (script.Deliver number))) (script_work w (Ok (script.Deliver number))) result old
        before value after
    delivery_comes (Ok replies) before after heard old value is = (
      subst (StandsFor (after_script w (Ok (script.Deliver number)))) (sym is) (taken_stands heard.1),
      heard.2
          ∙ ap (λ (xs : List Effect). before + cost xs) (sym works),
    )
    delivery_comes (Err NoMemory) before after heard old value is
        = subst (λ (xs : List Effect). PaysFront before xs after) (sym works) heard
    delivery_comes (Err NoSite) before after heard old value is = absurd heard
    delivery_comes (Err NoMail) before after heard old value is = absurd heard

    pub delivery_echoes : (result : Result (List Reply) WorldFault) (before after : ℕ) → DidHear result before after
        → IfOk result (AllByRecursion IsEcho)
    delivery_echoes (Ok replies) before after heard = echoes w v st number f h.got replies heard.0
    delivery_echoes (Err fault) before after heard = tt

    -- a call that went through leaves a world that stands for one
    pub delivery_kept : (result : Result (List Reply) WorldFault) (before after : ℕ) → DidHear result before after
        → is_err result ≡ false → HasWorld left
    delivery_kept (Ok replies) before after heard e
        = record { world = after_script w (Ok (script.Deliver number)); stands = taken_stands heard.1 }
    delivery_kept (Err fault) before after heard e = cc
