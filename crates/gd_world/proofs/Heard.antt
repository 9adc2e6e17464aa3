-- What a member says of a frame, and what it stands for then.
use Rattle.std.proofs.Common.{◌≡◌, ℕ, ◌+◌, List, [], ◌∷◌, sym, ◌∙◌, ap, subst}
use Rattle.std.specs.Prelude.{Result, Ok, Err, IfOk, OnErr}
use Rattle.gd_answers.proofs.Heard.{accepts, parts, passes, refuses}
use Rattle.gd_answers.specs.Arriving.{heard, replies_of}
use Rattle.gd_answers.specs.Paying.{frame_works}
use Rattle.gd_answers.specs.declared.arrived.Arrived.{Arrived}
use Rattle.gd_base.specs.declared.refusal.FrameFault.{FrameFault}
use Rattle.gd_base.specs.declared.verdict.Verdict.TheVariants.{Refused, Parted, Passed, Taken}
use Rattle.gd_effects.specs.Effects.{cost}
use Rattle.gd_events.specs.Events.{Event}
use Rattle.gd_grammar.specs.FrameBytes.{Frame}
use Rattle.gd_lines.specs.declared.reply.Reply.{Reply}
use Rattle.gd_lines.specs.declared.reply.Reply.TheVariants as reply
use Rattle.gd_lines.specs.declared.reply.Reply.TheVariants.{NotTaken}
use Rattle.gd_protocol.proofs.Backs.{backs_take_frame}
use Rattle.gd_reference.specs.Offers.{take_frame, verdict}
use Rattle.gd_reference.specs.SiteEffects.{frame_replies}
use Rattle.gd_reference.specs.SlowSite.{SlowSite}
use Rattle.gd_site.specs.Sites.{StandsFor}
use Rattle.gd_world.proofs.Paying.{pays_all}
use Rattle.gd_world.specs.Hearing.{Hears}
use Rattle.gd_world.specs.declared.fault.WorldFault.{WorldFault}
use Rattle.gd_world.specs.declared.fault.WorldFault.TheVariants.{NoSite, NoMail, NoMemory}
use Rattle.gd_world.specs.declared.member.Member.{Member}

module _ (slow : SlowSite) (f : Frame) (new : Member) (same : new.backs ≡ slow.backs)
    (site : StandsFor (take_frame slow f) new.site) (before after : ℕ)
    (paid : after ≡ before + cost (frame_works slow f)) where
  hears_said : (r : Result (List Reply) WorldFault) → IfOk r (λ rs. rs ≡ frame_replies slow f)
      → OnErr r (r ≡ Err NoMemory) → Hears slow f r before new after
  hears_said (Ok replies) is none = (is, record { site = site; backs_are = same ∙ sym (backs_take_frame slow f) }, paid)
  hears_said (Err NoMemory) is none = pays_all (frame_works slow f) paid
  hears_said (Err NoSite) is none = let e = none in cc
  hears_said (Err NoMail) is none = let e = none in cc

  hears_replies : (r : Result (List Reply) WorldFault) (said : List Reply) → frame_replies slow f ≡ said
      → IfOk r (λ rs. rs ≡ said) → OnErr r (r ≡ Err NoMemory) → Hears slow f r before new after
  hears_replies r said is says none =
      hears_said r (subst (λ (replies : List Reply). IfOk r (λ rs. rs ≡ replies)) (sym is) says) none

  -- nothing is said of a frame of a site from which it had parted
  pub hears_nothing : verdict slow f ≡ Passed → (replies : List Reply) → replies ≡ []
      → Hears slow f (Ok replies) before new after
  hears_nothing is replies none = hears_said (Ok replies) (none ∙ sym (passes slow f is).replies) tt

  module _ (r : Result (List Reply) WorldFault) (none : OnErr r (r ≡ Err NoMemory)) where
    -- a frame that is taken
    pub hears_all : (came : List Arrived) → (verdict slow f ≡ Taken) × (heard slow f.events ≡ came)
        → (es : List Event) → es ≡ f.events → IfOk r (λ rs. rs ≡ replies_of es came) → Hears slow f r before new after
    hears_all came is es events says =
        hears_replies r (replies_of es came)
        ((accepts slow f came is.0 is.1).replies ∙ ap (λ (l : List Event). replies_of l came) (sym events)) says none

    -- one that is refused
    pub hears_why : (fault : FrameFault) → verdict slow f ≡ Refused fault → IfOk r (λ rs. rs ≡ NotTaken fault ∷ [])
        → Hears slow f r before new after
    hears_why fault is says = hears_replies r (NotTaken fault ∷ []) (refuses slow f fault is).replies says none

    -- one that shows that the two sites have parted
    pub hears_parting : (count from : ℕ) → verdict slow f ≡ Parted count → from ≡ f.head.from
        → IfOk r (λ rs. rs ≡ reply.Parted from count ∷ []) → Hears slow f r before new after
    hears_parting count from is sender says =
        hears_replies r (reply.Parted from count ∷ [])
        ((parts slow f count is).replies ∙ ap (λ (t : ℕ). reply.Parted t count ∷ []) (sym sender)) says none
