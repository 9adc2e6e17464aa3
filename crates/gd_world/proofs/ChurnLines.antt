-- What a line of a churn says and sends at most.
use Rattle.std.proofs.Common.{◌≡◌, ℕ, zero, suc, ◌+◌, ◌≤◌, Bool, true, false, cond, List, [], ◌∷◌, length, slice_get}
use Rattle.std.proofs.Common.{refl, sym, subst, arith, length-append}
use Rattle.std.proofs.lemmas.Bool.{cond_both, leb-true}
use Rattle.std.specs.List.{AllByRecursion as Every, flat_map}
use Rattle.std.specs.Prelude.{Option, None, Some, Ok, Err}
use Rattle.gd_base.proofs.Lists.{Every-at}
use Rattle.gd_base.specs.Sites.{is_site}
use Rattle.gd_base.specs.declared.offer.Offer.{Offer}
use Rattle.gd_base.specs.declared.offer.Offer.TheVariants.{Next, Repeat, Gap, Backdated}
use Rattle.gd_base.specs.declared.refusal.EditRefusal.TheVariants.{ClockEnd, SessionFull}
use Rattle.gd_base.specs.declared.verdict.Verdict.{Verdict}
use Rattle.gd_base.specs.declared.verdict.Verdict.TheVariants.{Parted, Passed, Taken}
use Rattle.gd_base.specs.declared.verdict.Verdict.TheVariants as verdicts
use Rattle.gd_events.specs.Events.{Event}
use Rattle.gd_events.specs.Ops.{Op}
use Rattle.gd_grammar.specs.FrameBytes.{Frame, IsFrame, most_frame_events}
use Rattle.gd_lines.specs.declared.command.Command.TheVariants as command
use Rattle.gd_lines.specs.declared.command.Turn.{Turn}
use Rattle.gd_lines.specs.declared.command.ScriptLine.{ScriptLine}
use Rattle.gd_lines.specs.declared.command.ScriptLine.TheVariants as script
use Rattle.gd_lines.specs.declared.reply.Reply.{Reply}
use Rattle.gd_lines.specs.declared.reply.Reply.TheVariants as reply
use Rattle.gd_protocol.proofs.Backs.{single-due}
use Rattle.gd_protocol.proofs.Ranged.{ranged_after}
use Rattle.gd_protocol.specs.Kept.{AreSingle}
use Rattle.gd_reference.specs.Offers.{arrived, frame_for, offer, verdict}
use Rattle.gd_reference.specs.Backs.{due}
use Rattle.gd_reference.specs.SiteEffects.{done_replies, events_replies, frame_replies, offer_replies, turn_replies}
use Rattle.gd_reference.specs.SiteEffects.{verdict_replies}
use Rattle.gd_reference.specs.SlowSite.{SlowSite}
use Rattle.gd_reference.specs.TakeBack.{Refused, done, turn, turn_by}
use Rattle.gd_reference.specs.World.{World, delivered, happens, with_site}
use Rattle.gd_takeback.proofs.Doing.{length-done}
use Rattle.gd_worlds.specs.Churn.{done_id, ids_made, is_making}
use Rattle.gd_worlds.specs.Rehearsal.{after_script, delivery_replies, mail_of, script_replies}
use Rattle.gd_world.proofs.Members.{kept}
use Rattle.gd_world.specs.Drawn.{IsPlayed}
use Rattle.gd_world.specs.Standing.{StandsFor, WorldValue}

-- ---- what is said

offer_few : (held : List Event) (e : Event) (o : Offer) → length (offer_replies held e o) ≤ 1
offer_few held e Next = omega arith
offer_few held e Repeat = omega arith
offer_few held e Gap = omega arith
offer_few held e (Backdated clock sure) = omega arith

events_few : (slow : SlowSite) (events : List Event) → length (events_replies slow events) ≤ length events
unfolding events_replies
events_few slow [] = omega arith
events_few slow (e ∷ es) =
    omega (
      arith,
      offer_few slow.held e (offer slow e),
      events_few (arrived slow e) es,
      length-append
          (offer_replies slow.held e (offer slow e)) (events_replies (arrived slow e) es),
    )

frame_few : (slow : SlowSite) (f : Frame) (v : Verdict) → IsFrame f → length (verdict_replies slow f v) ≤ 67
frame_few slow f Taken h = omega (arith, events_few slow f.events, leb-true (length f.events) most_frame_events h.few)
frame_few slow f (verdicts.Refused fault) h = omega arith
frame_few slow f (Parted count) h = omega arith
frame_few slow f Passed h = omega arith

delivery_few : (w : World) (number : ℕ) (mail : Option Frame) → ((f : Frame) → mail ≡ Some f → IsFrame f)
    → length (delivery_replies w number mail) ≤ 68
delivery_few w number None frame = omega arith
delivery_few w number (Some f) frame =
    omega (
      arith,
      frame_few (w.at f.head.to) f (verdict (w.at f.head.to) f) (frame f refl),
      length-append (frame_replies (w.at f.head.to) f) (reply.Delivered number ∷ []),
    )

frames_in : (w : World) (v : WorldValue) → StandsFor w v → Every IsFrame w.mail
frames_in w v h =
    subst (λ (x : World). Every IsFrame x.mail) (sym h.reached)
    (ranged_after w.sites w.session h.steps (record { met = h.session; ranged = h.ranged })).frames

mail_is_frame : (w : World) → Every IsFrame w.mail → (number : ℕ) (f : Frame) → mail_of w number ≡ Some f → IsFrame f
mail_is_frame w h zero f e = absurd cc
mail_is_frame w h (suc mail) f e = Every-at IsFrame w.mail mail f h e

said_few : (there : Bool) (replies : List Reply) (other : Reply) → length replies ≤ 68
    → length (cond there replies (other ∷ [])) ≤ 68
said_few true replies other few = few
said_few false replies other few = omega arith

done_few : (es : List Event) → length es ≤ 1 → length (done_replies es) ≤ 68
done_few [] few = omega arith
done_few (e ∷ []) few = omega arith
done_few (e ∷ f ∷ es) few = absurd (omega (arith, few))

-- each back is of one event at most, so an undo says at most two things
turn_few : (slow : SlowSite) (which : Turn) → AreSingle slow.backs → length (turn_replies (turn slow which)) ≤ 68
unfolding turn
turn_few slow which single = by (due which slow.backs) (single-due which slow.backs single)
  where
    tests : (a b : Bool) (es : List Event) → length es ≤ 1
        → length (turn_replies (cond a (Err (Refused ClockEnd)) (cond b (Err (Refused SessionFull)) (Ok es)))) ≤ 68
    tests true b es few = omega arith
    tests false true es few = omega arith
    tests false false es few = done_few es few

    by : (all : List (List Op)) → Every (λ ops. length ops ≤ 1) all → length (turn_replies (turn_by slow all)) ≤ 68
    by [] few = omega arith
    by (ops ∷ all) few = tests _ _ (done slow ops) (omega (arith, few.0, length-done slow ops))

-- of a line that a churn plays
pub replies_few : (w : World) (v : WorldValue) → StandsFor w v → (line : ScriptLine) → IsPlayed line
    → length (script_replies w (Ok line)) ≤ 68
replies_few w v h (script.At site (command.Edit edit)) played = said_few (is_site w.sites site) _ _ (omega arith)
replies_few w v h (script.At site (command.Turn which)) played
    = said_few (is_site w.sites site) _ _ (turn_few (w.at site) which ((kept w v h).single site))
replies_few w v h (script.Send from to) played = omega arith
replies_few w v h (script.Deliver number) played
    = delivery_few w number (mail_of w number) (mail_is_frame w (frames_in w v h) number)
replies_few w v h other played = absurd played

ids_few : (replies : List Reply) → length (flat_map done_id replies) ≤ length replies
ids_few [] = omega arith
ids_few (reply.Done id ∷ replies) = omega (arith, ids_few replies)
ids_few (other ∷ replies) = omega (arith, ids_few replies)

pub made_few : (line : ScriptLine) (replies : List Reply) → length (ids_made line replies) ≤ length replies
made_few line replies = go (is_making line)
  where
    go : (b : Bool) → length (cond b (flat_map done_id replies) []) ≤ length replies
    go true = ids_few replies
    go false = omega arith

-- ---- what is sent

-- the sites stay as many, and one mail may be added
pub record IsNear (old new : World) : Type 0 where
  pub sites : new.sites ≡ old.sites
  pub mail : length new.mail ≤ length old.mail + 1

near_same : (w : World) → IsNear w w
near_same w = record { sites = refl; mail = omega arith }

near_with : (w : World) (site : ℕ) (slow : SlowSite) → IsNear w (with_site w site slow)
unfolding with_site
near_with w site slow = record { sites = refl; mail = omega arith }

near_delivered : (w : World) (mail : Option Frame) → IsNear w (delivered w mail)
near_delivered w None = near_same w
near_delivered w (Some f) = near_with w f.head.to _

pub near_script : (w : World) (line : ScriptLine) → IsNear w (after_script w (Ok line))
unfolding happens
near_script w (script.At site asked)
    = cond_both (is_site w.sites site) _ w (IsNear w) (λ inside. near_with w site _) (λ outside. near_same w)
near_script w (script.Send from to)
    = cond_both _ _ w (IsNear w)
    (λ may. record { sites = refl; mail = omega (arith, length-append w.mail (frame_for (w.at from) to ∷ [])) })
    (λ may_not. near_same w)
near_script w (script.Deliver zero) = near_same w
near_script w (script.Deliver (suc mail)) = near_delivered w (slice_get w.mail mail)
near_script w other = near_same w
