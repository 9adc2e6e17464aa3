-- What comes of an event, a frame and an item that comes to a viewer.
use Rattle.std.proofs.Common.{◌≡◌, ℕ, ◌+◌, ◌≤◌, Bool, true, false, cond, ◌==◌, List, [], ◌∷◌, ◌++◌, length, refl, sym}
use Rattle.std.proofs.Common.{ap, ◌∙◌, subst, eqb-true, arith, IsTrue}
use Rattle.std.proofs.lemmas.Bool.{and_parts}
use Rattle.std.specs.Prelude.{Option, Some, None, Result, Ok, Err, OnOk}
use Rattle.gd_answers.proofs.Heard.{reply_by_offer}
use Rattle.gd_answers.proofs.Turns.{came_of}
use Rattle.gd_answers.proofs.Undone.{undone_within}
use Rattle.gd_answers.specs.Arriving.{IsShort, arrived_by, arrived_of, arrived_reply, reply_list}
use Rattle.gd_answers.specs.declared.arrived.Arrived.{Arrived}
use Rattle.gd_base.specs.Sites.{is_site}
use Rattle.gd_base.specs.declared.offer.Offer.{Offer}
use Rattle.gd_base.specs.declared.offer.Offer.TheVariants.{Next, Repeat, Gap, Backdated}
use Rattle.gd_base.specs.declared.refusal.FrameFault.{FrameFault}
use Rattle.gd_base.specs.declared.refusal.FrameFault.TheVariants.{Session, NoSuchSite}
use Rattle.gd_effects.proofs.Doing.{does_as, does_then}
use Rattle.gd_effects.proofs.OneRecord.{nothing_done, worked}
use Rattle.gd_effects.specs.Done.{DoesAll}
use Rattle.gd_effects.specs.Effects.{Effect}
use Rattle.gd_effects.specs.Outside.{outside}
use Rattle.gd_effects.specs.Prints.{Prints, PrintsInSteps}
use Rattle.gd_events.specs.Events.{Event}
use Rattle.gd_grammar.specs.FrameBytes.{AreInTurn, Frame, IsFrame, last_of}
use Rattle.gd_grammar.specs.Reading.{AllFollow}
use Rattle.gd_grammar.specs.declared.frame.Head.{Head}
use Rattle.gd_grammar.specs.declared.frame.Last.{Last}
use Rattle.gd_lines.specs.declared.reply.Reply.TheVariants as reply
use Rattle.gd_model.specs.Arrivals.{cost_of, outcome_of}
use Rattle.gd_outside.specs.Seen.{SeenSource, SeenSink, SeenJournal, SeenLink}
use Rattle.gd_outside.specs.declared.end.End.{End}
use Rattle.gd_reference.specs.Said.{all_said, says}
use Rattle.gd_reference.specs.SiteEffects.{offer_replies}
use Rattle.gd_site.specs.Answers.{checked}
use Rattle.gd_site.specs.declared.answers.Taken.{Taken}
use Rattle.gd_viewer.proofs.Counted.{counted_to-few}
use Rattle.gd_viewer.specs.Answers.{steps_by, taken_by}
use Rattle.gd_viewer.specs.Viewers.{StandsFor, ViewerValue}
use Rattle.gd_viewing.specs.SlowViewer.{SlowViewer, viewer_all_arrived, viewer_beat, viewer_offer, viewer_refusal}
use Rattle.gd_viewing.specs.SlowViewer.{viewer_taken, viewer_unless_refused}
use Rattle.gd_viewing.specs.ViewerEffects.{of_viewer_event, of_viewer_events, of_viewer_frame, of_viewer_frame_unless}
use Rattle.gd_viewing.specs.ViewerEffects.{viewing}
use Rattle.gd_watch.specs.Taking.{AreInside}

-- ---- what is said of an event

came_by : (v : SlowViewer) (e : Event) (o : Offer) → arrived_of (taken_by o v e) ≡ arrived_by v.held e o
came_by v e Next = came_of (outcome_of v.held e)
came_by v e Repeat = refl
came_by v e Gap = refl
came_by v e (Backdated clock sure) = refl

-- what is said of an event that came to this
abbrev pub said_of : Event → Arrived → List Effect
said_of e came = all_said (reply_list (arrived_reply e came))

said_is : (v : SlowViewer) (e : Event) (o : Offer)
    → said_of e (arrived_of (taken_by o v e)) ≡ all_said (offer_replies v.held e o)
said_is v e o = ap (said_of e) (came_by v e o) ∙ ap all_said (reply_by_offer v.held e o)

worked_by : (v : SlowViewer) (e : Event) (o : Offer) (input : SeenSource) (output : SeenSink) (journal : SeenJournal)
    (link : SeenLink) {old new : ℕ} → new ≡ old + steps_by o v e
    → DoesAll (outside input output journal link old) (viewing v.held e o) (outside input output journal link new)
worked_by v e Next input output journal link paid = worked input output journal link (cost_of v.held e) paid
worked_by v e Repeat input output journal link paid = nothing_done input output journal link (omega (arith, paid))
worked_by v e Gap input output journal link paid = nothing_done input output journal link (omega (arith, paid))
worked_by v e (Backdated clock sure) input output journal link paid
    = nothing_done input output journal link (omega (arith, paid))

-- the steps, and then what is said
pub event_done : {T : Type 0} (v : SlowViewer) (e : Event) (t : Taken) (r : Result T End) {old new : ℕ} {a b : SeenSink}
    → t ≡ taken_by (viewer_offer v e) v e
    → new ≡ old + steps_by (viewer_offer v e) v e → Prints a (said_of e (arrived_of t)) r b
    → PrintsInSteps a old (of_viewer_event v e) r b new
event_done v e t r {old} {new} {a} is paid prints = λ input journal link.
    let o = viewer_offer v e in
    let said : said_of e (arrived_of t)
    ≡ all_said (offer_replies v.held e o) = ap (λ (z : Taken). said_of e (arrived_of z)) is ∙ said_is v e o in
    does_as (ap (λ (z : List Effect). viewing v.held e o ++ z) (sym said))
    (does_then (worked_by v e o input a journal link paid) (prints input journal link new))

-- ---- an arrival undoes no more events than a session can have

held_few : (v : SlowViewer) (s : ViewerValue) → StandsFor v s → length v.held ≤ 1048560
held_few v s stands = omega
    (arith, stands.well.made, stands.well.few, counted_to-few v.count v.sites stands.well.numbered)

pub has_few : (v : SlowViewer) (s : ViewerValue) → StandsFor v s → (e : Event) (t : Taken)
    → t ≡ taken_by (viewer_offer v e) v e → IsShort t
has_few v s stands e t is = subst IsShort (sym is) (go (viewer_offer v e))
  where
    go : (o : Offer) → IsShort (taken_by o v e)
    go Next = undone_within v.held (held_few v s stands) e
    go Repeat = tt
    go Gap = tt
    go (Backdated clock sure) = tt

-- ---- a frame

-- what a frame owes, and the reference viewer behind it
pub record FrameIs (v : SlowViewer) (f : Frame) (xs : List Effect) (then : SlowViewer) : Type 0 where
  pub effects : of_viewer_frame v f ≡ xs
  pub then_is : viewer_taken v f ≡ then

checked_some : (x : Option FrameFault) (why : FrameFault) → checked x ≡ Err why → x ≡ Some why
checked_some (Some fault) why e = cc
checked_some None why e = cc

checked_none : (x : Option FrameFault) (u : Unit {0}) → checked x ≡ Ok u → x ≡ None
checked_none (Some fault) u e = cc
checked_none None u e = refl

module _ (v : SlowViewer) (f : Frame) where
  -- one that is refused
  pub refused_is : (why : FrameFault) → Err why ≡ checked (viewer_refusal v f.head)
      → FrameIs v f (says (reply.NotTaken why) ∷ []) v
  unfolding viewer_taken
  refused_is why said =
      let is = checked_some (viewer_refusal v f.head) why (sym said) in
      record {
        effects = ap (of_viewer_frame_unless v f) is;
        then_is = ap (λ (r : Option FrameFault). viewer_unless_refused r v f) is;
      }

  -- one that isn't
  pub accepted_is : (events : List Event) (u : Unit {0}) → events ≡ f.events → Ok u ≡ checked (viewer_refusal v f.head)
      → FrameIs v f (of_viewer_events v events) (viewer_beat (viewer_all_arrived v events) f)
  unfolding viewer_taken
  accepted_is events u are said =
      let is = checked_none (viewer_refusal v f.head) u (sym said) in
      record {
        effects = ap (of_viewer_frame_unless v f) is ∙ ap (of_viewer_events v) (sym are);
        then_is = ap (λ (r : Option FrameFault). viewer_unless_refused r v f) is
            ∙ ap (λ (l : List Event). viewer_beat (viewer_all_arrived v l) f) (sym are);
      }

within : (same inside : Bool) → cond same (cond inside None (Some NoSuchSite)) (Some Session) ≡ None → inside ≡ true
within true true e = refl
within true false e = absurd cc
within false inside e = absurd cc

-- its sender is a site of the session
pub sender_inside : (v : SlowViewer) (s : ViewerValue) → StandsFor v s → (f : Frame) (u : Unit {0})
    → Ok u ≡ checked (viewer_refusal v f.head) → IsTrue (is_site s.heard.sites f.head.from)
sender_inside v s stands f u said =
    let is = within (f.head.session == v.session) (is_site v.sites f.head.from)
    (checked_none (viewer_refusal v f.head) u (sym said)) in
    subst (λ (n : ℕ). IsTrue (is_site n f.head.from)) (sym stands.sites) is

-- and the events of a frame are of its sender
inside_turns : (sites : ℕ) (head : Head) (last : Option Last) (es : List Event) → IsTrue (is_site sites head.from)
    → AreInTurn head last es → AreInside sites es
unfolding AllFollow
inside_turns sites head last [] inside h = tt
inside_turns sites head last (e ∷ es) inside h = (
  subst (λ (t : ℕ). IsTrue (is_site sites t))
      (sym (eqb-true e.stamp.site head.from (and_parts (e.stamp.site == head.from) _ h.0.next).0)) inside,
  inside_turns sites head (Some (last_of e)) es inside h.1,
)

pub events_inside : (sites : ℕ) (f : Frame) → IsFrame f → IsTrue (is_site sites f.head.from) → AreInside sites f.events
events_inside sites f is inside = inside_turns sites f.head None f.events inside is.turns

pub on_ok_map : {T E P Q : Type 0} (r : Result T E) → (P → Q) → OnOk r P → OnOk r Q
on_ok_map (Ok v) f p = f p
on_ok_map (Err e) f p = tt
