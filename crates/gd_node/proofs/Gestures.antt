-- How the lines of a gesture are judged one after another, and what they come to.
use Rattle.std.proofs.Common.{◌≡◌, ℕ, zero, suc, ◌+◌, ◌≤◌, List, [], ◌∷◌, ◌++◌, length, refl, sym, ◌∙◌, ap, subst}
use Rattle.std.proofs.Common.{append-nil, append_assoc, arith}
use Rattle.std.proofs.lemmas.Grind.{flat_map-append}
use Rattle.std.proofs.lemmas.List.{flat_map_more, length-append}
use Rattle.std.specs.List.{flat_map}
use Rattle.std.specs.Prelude.{Result, Ok, Err, IsErrAnd, replicate}
use Rattle.gd_base.specs.declared.refusal.Refusal.{Refusal}
use Rattle.gd_base.specs.declared.refusal.Refusal.TheVariants.{GestureFull}
use Rattle.gd_backs.proofs.NextEvents.{with_events-append}
use Rattle.gd_dialogue.proofs.Carrying.{carries_exit}
use Rattle.gd_events.specs.Events.{Event}
use Rattle.gd_lines.specs.Replies.{reply_text}
use Rattle.gd_lines.specs.declared.reply.Reply.{Reply}
use Rattle.gd_lines.specs.declared.reply.Reply.TheVariants as reply
use Rattle.gd_node.proofs.Edits.{Makes as OwesMade, PaysPart, carries_part, steps_of}
use Rattle.gd_node.specs.Editing.{of_made}
use Rattle.gd_node.specs.Gesturing.{AreAsked, AreMade, Judges, JudgesAll, MakesIt, for_gesture}
use Rattle.gd_node.specs.Meeting.{Meets}
use Rattle.gd_node.specs.Owing.{Carries, node}
use Rattle.gd_node.specs.declared.member.Member.{Member}
use Rattle.gd_outside.specs.Seen.{SeenJournal, SeenLink, SeenSink}
use Rattle.gd_outside.specs.declared.end.End.{End}
use Rattle.gd_outside.specs.declared.end.End.TheVariants.{NoMemory}
use Rattle.gd_reference.specs.Backs.{Backs, with_gesture}
use Rattle.gd_reference.specs.Said.{all_said}
use Rattle.gd_reference.specs.SiteEffects.{asked_replies, asked_reply, gesture_replies, of_gesture, of_own, recording}
use Rattle.gd_reference.specs.SiteEffects.{tries_with}
use Rattle.gd_reference.specs.SlowSite.{SlowSite}
use Rattle.gd_reference.specs.TakeBack.{Asked, after_asked, after_gesture, answer, backs_of, events_in, made}
use Rattle.gd_reference.specs.TakeBack.{with_events, with_made}
use Rattle.gd_site.specs.Sites.{SiteValue, StandsFor}
use Rattle.gd_takeback.proofs.Doing.{made-more, made-none}
use Rattle.gd_takeback.proofs.Standing.{gesture_stands}
use Rattle.gd_takeback.specs.Lists.{GestureValue}
use Rattle.gd_takeback.specs.Making.{HasMade, Making, making}
use Rattle.gd_takeback.specs.Standing.{StandsWith}

-- ---- one after another

-- the events of a line, behind those that were made
made_by : (slow : SlowSite) (es : List Event) (r : Result Event Refusal) (old new : Making) → HasMade slow es old
    → MakesIt r (with_events slow es) old new
    → HasMade slow (es ++ events_in r) new
made_by slow es (Ok e) old new has makes = made-more slow es e old new has makes
made_by slow es (Err why) old new has same =
    subst (λ (fs : List Event). HasMade slow fs new) (sym (append-nil es)) (subst (HasMade slow es) (sym same) has)

-- so far these events were made, and this was said; with those of the lines that are left they are all
pub record SoFar (slow : SlowSite) (all left : List Asked) (m : Making) (told now : List ℕ) (before paid : ℕ) : Type 0
  where
    pub es : List Event
    pub replies : List Reply
    pub has : HasMade slow es m
    pub events : es ++ made (with_events slow es) left ≡ made slow all
    pub said : now ≡ told ++ flat_map reply_text replies
    pub says : replies ++ asked_replies (with_events slow es) left ≡ asked_replies slow all
    pub steps : paid ≡ before + length es

pub judged_none : (slow : SlowSite) (all : List Asked) (m : Making) → StandsFor slow m.site → m.gesture.events ≡ []
    → m.gesture.back ≡ [] → (told : List ℕ) (steps : ℕ)
    → SoFar slow all all m told told steps steps
unfolding with_events
judged_none slow all m stands events back told steps = record {
  es = [];
  replies = [];
  has = made-none slow m stands events back;
  events = refl;
  said = sym (append-nil told);
  says = refl;
  steps = omega arith;
}

module _ (slow : SlowSite) (all : List Asked) (told : List ℕ) (before : ℕ) where
  -- the next line was judged
  pub judged_more : {left : List Asked} (each : Asked) (more : List Asked) → left ≡ each ∷ more
      → {old new : Making} {now next : List ℕ} {paid pays : ℕ} (said : Reply)
      → SoFar slow all left old told now before paid
      → ((there : SlowSite) → StandsFor there old.site → Judges there each said old new paid pays)
      → next ≡ now ++ reply_text said → SoFar slow all more new told next before pays
  unfolding made asked_replies
  judged_more each more is {old} {new} {now} {next} {paid} {pays} said given judges says =
      let s = subst (λ (l : List Asked). SoFar slow all l old told now before paid) is given in
      let there = with_events slow s.es in
      let j = judges there s.has.site in
      let fs = events_in (answer there each) in
      let behind : with_events slow (s.es ++ fs) ≡ after_asked there each = with_events-append slow s.es fs in
      record {
        es = s.es ++ fs;
        replies = s.replies ++ said ∷ [];
        has = made_by slow s.es (answer there each) old new s.has j.makes;
        events =
            append_assoc s.es fs (made (with_events slow (s.es ++ fs)) more)
            ∙ ap (λ (x : SlowSite). s.es ++ (fs ++ made x more)) behind ∙ s.events;
        said = says ∙ ap (λ (text : List ℕ). text ++ reply_text said) s.said
            ∙ flat_map_more reply_text told s.replies said;
        says =
            append_assoc s.replies (said ∷ []) (asked_replies (with_events slow (s.es ++ fs)) more)
            ∙ (λ i. s.replies ++ j.said_is i ∷ asked_replies (behind i) more) ∙ s.says;
        steps = omega (arith, j.steps, s.steps, length-append s.es fs);
      }

  module _ {left : List Asked} {m : Making} {now : List ℕ} {paid : ℕ} where
    -- all were
    pub judged_all : left ≡ [] → SoFar slow all left m told now before paid
        → AreMade slow all (asked_replies slow all) m told now before paid
    unfolding made asked_replies
    judged_all is given =
        let s = subst (λ (l : List Asked). SoFar slow all l m told now before paid) is given in
        let same : s.es ≡ made slow all = sym (append-nil s.es) ∙ s.events in
        record {
          has = subst (λ (es : List Event). HasMade slow es m) same s.has;
          said = s.said ∙ ap (λ (rs : List Reply). told ++ flat_map reply_text rs)
              (sym (append-nil s.replies) ∙ s.says);
          steps = s.steps ∙ ap (λ (es : List Event). before + length es) same;
        }

    -- a front of them was
    pub judged_front : SoFar slow all left m told now before paid
        → (before ≤ paid) × (paid ≤ before + length (made slow all))
    judged_front s =
        let count = sym (length-append s.es (made (with_events slow s.es) left))
        ∙ ap (λ (es : List Event). length es) s.events in
        (omega (arith, s.steps), omega (arith, s.steps, count))

-- ---- those that were too many, and how many there were

abbrev full : Asked
full = Err GestureFull

made_full : (slow : SlowSite) (n : ℕ) → made slow (replicate n full) ≡ []
unfolding made with_events
made_full slow zero = refl
made_full slow (suc n) = made_full slow n

replies_full : (slow : SlowSite) (n : ℕ)
    → asked_replies slow (replicate n full) ≡ replicate n (reply.Refused GestureFull)
unfolding asked_replies with_events
replies_full slow zero = refl
replies_full slow (suc n) = ap (λ (rs : List Reply). reply.Refused GestureFull ∷ rs) (replies_full slow n)

made_others : (slow : SlowSite) (asked : List Asked) (n : ℕ) → made slow (asked ++ replicate n full) ≡ made slow asked
unfolding made
made_others slow [] n = made_full slow n
made_others slow (each ∷ asked) n
    = ap (λ (es : List Event). events_in (answer slow each) ++ es) (made_others (after_asked slow each) asked n)

replies_others : (slow : SlowSite) (asked : List Asked) (n : ℕ)
    → asked_replies slow (asked ++ replicate n full)
    ≡ asked_replies slow asked ++ replicate n (reply.Refused GestureFull)
unfolding asked_replies
replies_others slow [] n = replies_full slow n
replies_others slow (each ∷ asked) n
    = ap (λ (rs : List Reply). asked_reply (answer slow each) ∷ rs) (replies_others (after_asked slow each) asked n)

module _ (slow : SlowSite) {all : List Asked} (first : List Asked) (over : ℕ) (is : all ≡ first ++ replicate over full)
  where
    same_made : made slow all ≡ made slow first
    same_made = ap (made slow) is ∙ made_others slow first over

    pub front_of_first : {before after : ℕ} → (before ≤ after) × (after ≤ before + length (made slow first))
        → (before ≤ after) × (after ≤ before + length (made slow all))
    front_of_first {before} {after} h
        = subst (λ (es : List Event). (before ≤ after) × (after ≤ before + length es)) (sym same_made) h

    pub front_of_made : {replies : List Reply} {m : Making} {told now : List ℕ} {before after : ℕ}
        → AreMade slow first replies m told now before after
        → (before ≤ after) × (after ≤ before + length (made slow all))
    front_of_made h = front_of_first (omega (arith, h.steps), omega (arith, h.steps))

    -- it was said of the others that they were too many, and then how many there were
    pub all_judged : {m : Making} {told now others end : List ℕ} {before after : ℕ} (count : ℕ)
        → AreMade slow first (asked_replies slow first) m told now before after
        → others ≡ now ++ flat_map reply_text (replicate over (reply.Refused GestureFull)) → count ≡ length all
        → end ≡ others ++ reply_text (reply.End count)
        → AreMade slow all (gesture_replies slow all) m told end before after
    all_judged {m} {told} {now} {others} {end} {before} {after} count h refused counts ends =
        let firsts = asked_replies slow first in
        let lasts = replicate over (reply.Refused GestureFull) in
        let replies : firsts ++ lasts
        ≡ asked_replies slow all = sym (ap (asked_replies slow) is ∙ replies_others slow first over) in
        record {
          has = subst (λ (es : List Event). HasMade slow es m) (sym same_made) h.has;
          said =
              ends ∙ ap (λ (n : ℕ). others ++ reply_text (reply.End n)) counts
              ∙ ap (λ (text : List ℕ). text ++ reply_text (reply.End (length all)))
              (refused ∙ ap (λ (text : List ℕ). text ++ flat_map reply_text lasts) h.said
              ∙ append_assoc told (flat_map reply_text firsts) (flat_map reply_text lasts)
              ∙ ap (λ (text : List ℕ). told ++ text) (sym (flat_map-append reply_text firsts lasts))
              ∙ ap (λ (rs : List Reply). told ++ flat_map reply_text rs) replies)
              ∙ flat_map_more reply_text told (asked_replies slow all) (reply.End (length all));
          steps = h.steps ∙ ap (λ (es : List Event). before + length es) (sym same_made);
        }

-- where memory ran out before that
pub judged_cut : (slow : SlowSite) (all : List Asked) (replies : List Reply) (e : End) (r : Result GestureValue End)
    → IsErrAnd r (λ y. y ≡ e)
    → (site : SiteValue) (told now : List ℕ) {before after : ℕ}
    → (before ≤ after) × (after ≤ before + length (made slow all))
    → JudgesAll slow all replies r site told now before after
judged_cut slow all replies e (Ok gesture) is site told now paid = absurd is
judged_cut slow all replies e (Err y) is site told now paid = paid

-- ---- a gesture that is kept

-- what a reference site owes for it, and becomes, and what stands for that
pub gesture_made : (slow : SlowSite) (asked : List Asked) → AreAsked asked → {old : Member} {journal : SeenJournal}
    → Meets slow old journal
    → {replies : List Reply} (site : SiteValue) (gesture : GestureValue) {told now : List ℕ} {before after : ℕ}
    → AreMade slow asked replies (making site gesture) told now before after
    → (es : List Event) → es ≡ gesture.events → (kept : Backs) → kept ≡ with_gesture gesture.back old.backs
    → OwesMade slow es (gesture_replies slow asked) (of_gesture slow asked) (after_gesture slow asked)
    × StandsWith (after_gesture slow asked) site kept
unfolding after_gesture
gesture_made slow asked ranged {old} m site gesture h es events kept keeps =
    let are : made slow asked ≡ es = sym (events ∙ h.has.events) in (
      record {
        effects = ap (λ (fs : List Event). of_own slow fs (gesture_replies slow asked)) are;
        backs = with_gesture (backs_of slow es) slow.backs;
        becomes = ap (λ (fs : List Event). with_made slow fs with_gesture) are;
      },
      gesture_stands slow m.stands asked ranged (making site gesture) h.has kept keeps,
    )

-- its effects begin with the steps
own_begins : (slow : SlowSite) (es : List Event) (replies : List Reply)
    → of_own slow es replies ≡ steps_of es ++ of_made slow es replies
own_begins slow es replies =
    let records = recording slow es in
    let frames = tries_with slow es in
    ap (λ xs. xs ++ frames) (append_assoc (steps_of es) records (all_said replies))
    ∙ append_assoc (steps_of es) (records ++ all_said replies) frames

-- memory ran out before it was announced
gesture_part : (slow : SlowSite) (asked : List Asked) {before after : ℕ}
    → (before ≤ after) × (after ≤ before + length (made slow asked)) → PaysPart (of_gesture slow asked) before after
gesture_part slow asked paid =
    let es = made slow asked in
    record {
      es = es;
      rest = of_made slow es (gesture_replies slow asked);
      begins
          = own_begins slow es (gesture_replies slow asked);
      least = paid.0;
      most = paid.1;
    }

pub gesture_cut : (asked : List Asked) {e : End} (r : Result (Unit {0}) End) → IsErrAnd r (λ y. y ≡ e) → e ≡ NoMemory
    → {old new : Member} (output : SeenSink) (journal : SeenJournal) (link : SeenLink) {steps steps' : ℕ}
    → ((slow : SlowSite) → Meets slow old journal → (steps ≤ steps') × (steps' ≤ steps + length (made slow asked)))
    → Carries (for_gesture asked) r (node old output journal link steps) (node new output journal link steps')
gesture_cut asked r is memory {old} {new} output journal link {steps} {steps'} paid =
    carries_exit r is
    (subst (λ (z : End). Carries {T = Unit {0}} (for_gesture asked) (Err z) (node old output journal link steps)
    (node new output journal link steps')) (sym memory)
    (carries_part (λ slow. of_gesture slow asked) (λ slow. after_gesture slow asked) output journal link
    (λ slow m. gesture_part slow asked (paid slow m))))
