-- What is taken of the events of a frame, and what is said of them, by what came of each.
use Rattle.std.proofs.Common.{◌≡◌, ◌∙◌, ℕ, List, [], ◌∷◌, ◌++◌, refl, sym, ap, ap₂}
use Rattle.std.proofs.lemmas.Bool.{cond_both}
use Rattle.std.specs.Prelude.{◌==◌, cond}
use Rattle.gd_answers.specs.Arriving.{arrived_by, arrived_reply, heard, is_taken, of_outcome, replies_of, reply_list}
use Rattle.gd_answers.specs.Arriving.{taken_of}
use Rattle.gd_answers.specs.Paying.{frame_works, works_by}
use Rattle.gd_answers.specs.declared.arrived.Arrived.{Arrived}
use Rattle.gd_base.specs.declared.offer.Offer.{Offer}
use Rattle.gd_base.specs.declared.offer.Offer.TheVariants.{Next, Repeat, Gap, Backdated}
use Rattle.gd_base.specs.declared.refusal.FrameFault.{FrameFault}
use Rattle.gd_base.specs.declared.verdict.Verdict.{Verdict}
use Rattle.gd_base.specs.declared.verdict.Verdict.TheVariants.{Refused, Parted, Passed, Taken}
use Rattle.gd_events.specs.Events.{Event}
use Rattle.gd_events.specs.Ops.{Op}
use Rattle.gd_grammar.specs.FrameBytes.{Frame}
use Rattle.gd_lines.specs.declared.reply.Reply.{Reply}
use Rattle.gd_lines.specs.declared.reply.Reply.TheVariants as reply
use Rattle.gd_lines.specs.declared.reply.Reply.TheVariants.{NotTaken}
use Rattle.gd_model.specs.Arrivals.{outcome_of}
use Rattle.gd_protocol.proofs.NodeEffects.{held-taken}
use Rattle.gd_reference.specs.Offers.{after_verdict, all_arrived, arrived, finished, offer, take_frame, verdict}
use Rattle.gd_reference.specs.Offers.{with_note, with_parting}
use Rattle.gd_reference.specs.Said.{all_said}
use Rattle.gd_reference.specs.SiteEffects.{echo, events_replies, frame_replies, of_frame, of_verdict, offer_replies}
use Rattle.gd_reference.specs.SiteEffects.{recording, taken, taken_as, verdict_replies, works_of}
use Rattle.gd_reference.specs.SlowSite.{SlowSite, count}
use Rattle.gd_repair.specs.Repair.{Outcome, Stamped, applied, dropped, reworked}

-- ---- events

taken_of_outcome : (e : Event) (o : Outcome (Stamped Op)) → cond (is_taken (of_outcome o)) (e ∷ []) [] ≡ e ∷ []
taken_of_outcome e applied = refl
taken_of_outcome e (dropped c) = refl
taken_of_outcome e (reworked cs) = refl

reply_of_outcome : (e : Event) (o : Outcome (Stamped Op)) → reply_list (arrived_reply e (of_outcome o)) ≡ echo e o ∷ []
reply_of_outcome e applied = refl
reply_of_outcome e (dropped c) = refl
reply_of_outcome e (reworked cs) = refl

taken_by_offer : (held : List Event) (e : Event) (o : Offer)
    → cond (is_taken (arrived_by held e o)) (e ∷ []) [] ≡ taken_as o e
taken_by_offer held e Next = taken_of_outcome e (outcome_of held e)
taken_by_offer held e Repeat = refl
taken_by_offer held e Gap = refl
taken_by_offer held e (Backdated clock sure) = refl

-- what is said of an event with that offer
pub reply_by_offer : (held : List Event) (e : Event) (o : Offer)
    → reply_list (arrived_reply e (arrived_by held e o)) ≡ offer_replies held e o
reply_by_offer held e Next = reply_of_outcome e (outcome_of held e)
reply_by_offer held e Repeat = refl
reply_by_offer held e Gap = refl
reply_by_offer held e (Backdated clock sure) = refl

-- of the events that come to this, those are taken that the reference site takes
pub taken_of-heard : (slow : SlowSite) (es : List Event) → taken_of es (heard slow es) ≡ taken slow es
unfolding taken_of heard taken
taken_of-heard slow [] = refl
taken_of-heard slow (e ∷ es)
    = ap₂ (λ (xs ys : List Event). xs ++ ys) (taken_by_offer slow.held e (offer slow e))
    (taken_of-heard (arrived slow e) es)

-- and that is said of them which it says
pub replies_of-heard : (slow : SlowSite) (es : List Event) → replies_of es (heard slow es) ≡ events_replies slow es
unfolding replies_of heard events_replies
replies_of-heard slow [] = refl
replies_of-heard slow (e ∷ es)
    = ap₂ (λ (xs ys : List Reply). xs ++ ys) (reply_by_offer slow.held e (offer slow e))
    (replies_of-heard (arrived slow e) es)

-- ---- frames, by their verdict

-- a frame that is taken, where this comes of its events
pub record Accepts (slow : SlowSite) (f : Frame) (came : List Arrived) : Type 0 where
  pub works : frame_works slow f ≡ works_of slow f.events
  pub replies : frame_replies slow f ≡ replies_of f.events came
  pub effects : of_frame slow f
      ≡ works_of slow f.events ++ recording slow (taken_of f.events came) ++ all_said (replies_of f.events came)
  pub then_is : take_frame slow f ≡ finished (all_arrived slow f.events) f
  pub held_is : (take_frame slow f).held ≡ slow.held ++ taken_of f.events came

-- one that isn't: that is said, and nothing else comes of it
pub record Leaves (slow : SlowSite) (f : Frame) (said : List Reply) (then : SlowSite) : Type 0 where
  pub works : frame_works slow f ≡ []
  pub replies : frame_replies slow f ≡ said
  pub effects : of_frame slow f ≡ all_said said
  pub then_is : take_frame slow f ≡ then

held_finished : (slow : SlowSite) (f : Frame) → (finished slow f).held ≡ slow.held
held_finished slow f =
    cond_both (count slow f.head.from == f.head.count) _ _ (λ (z : SlowSite). (with_note z f).held ≡ slow.held)
    (λ beat. refl) (λ other. refl)

module _ (slow : SlowSite) (f : Frame) where
  -- where it leads by its verdict
  pub taken_as_judged : (v : Verdict) → verdict slow f ≡ v → take_frame slow f ≡ after_verdict v slow f
  unfolding take_frame
  taken_as_judged v is = ap (λ (w : Verdict). after_verdict w slow f) is

  pub accepts : (came : List Arrived) → verdict slow f ≡ Taken → heard slow f.events ≡ came → Accepts slow f came
  accepts came is events =
      let took : taken slow f.events ≡ taken_of f.events came = sym (taken_of-heard slow f.events)
      ∙ ap (taken_of f.events) events in
      let said : events_replies slow f.events ≡ replies_of f.events came = sym (replies_of-heard slow f.events)
      ∙ ap (replies_of f.events) events in
      let then = taken_as_judged Taken is in
      record {
        works = ap (works_by slow f) is;
        replies = ap (verdict_replies slow f) is ∙ said;
        effects = ap (of_verdict slow f) is
            ∙ ap₂ (λ (es : List Event) (rs : List Reply). works_of slow f.events ++ recording slow es ++ all_said rs)
            took said;
        then_is = then;
        held_is = ap (λ (s : SlowSite). s.held) then ∙ held_finished (all_arrived slow f.events) f
            ∙ held-taken slow f.events ∙ ap (λ (es : List Event). slow.held ++ es) took;
      }

  pub refuses : (fault : FrameFault) → verdict slow f ≡ Refused fault → Leaves slow f (NotTaken fault ∷ []) slow
  refuses fault is = record {
    works = ap (works_by slow f) is;
    replies = ap (verdict_replies slow f) is;
    effects = ap (of_verdict slow f) is;
    then_is = taken_as_judged (Refused fault) is;
  }

  pub parts : (count : ℕ) → verdict slow f ≡ Parted count
      → Leaves slow f (reply.Parted f.head.from count ∷ []) (with_parting slow f.head.from count)
  parts count is = record {
    works = ap (works_by slow f) is;
    replies = ap (verdict_replies slow f) is;
    effects = ap (of_verdict slow f) is;
    then_is = taken_as_judged (Parted count) is;
  }

  pub passes : verdict slow f ≡ Passed → Leaves slow f [] slow
  passes is = record {
    works = ap (works_by slow f) is;
    replies = ap (verdict_replies slow f) is;
    effects = ap (of_verdict slow f) is;
    then_is = taken_as_judged Passed is;
  }
