-- The lines of a gesture, judged one after another, and the gesture that they make.
use Rattle.std.proofs.Common.{◌≡◌, ℕ, ◌+◌, ◌<◌, ◌≤◌, Bool, true, false, cond, List, [], ◌∷◌, ◌++◌, drop, length, take}
use Rattle.std.proofs.Common.{refl, sym, ◌∙◌, ap, subst, append-nil, append_assoc, length-append, arith}
use Rattle.std.proofs.lemmas.List.{drop-drop, length-drop}
use Rattle.std.proofs.lemmas.List.Sums.{prefix_len-le-length}
use Rattle.std.specs.Prelude.{not}
use Rattle.std.specs.Prelude.{Option, None, Some, Result, Ok, Err, IsErr, nat_le}
use Rattle.std.specs.declared.alloc.AllocError.{AllocError}
use Rattle.gd_backs.proofs.NextEvents.{with_events-append, with_events-is}
use Rattle.gd_base.proofs.Lists.{Every-append}
use Rattle.gd_base.specs.declared.refusal.Refusal.{Refusal}
use Rattle.gd_base.specs.declared.refusal.Refusal.TheVariants.{GestureFull, InGesture}
use Rattle.gd_events.specs.Events.{Event}
use Rattle.gd_lines.specs.Lines.{read}
use Rattle.gd_lines.specs.Refusals.{line_refusal}
use Rattle.gd_lines.specs.Replies.{reply_text}
use Rattle.gd_lines.specs.declared.command.Command.TheVariants as command
use Rattle.gd_lines.specs.declared.reply.Reply.{Reply}
use Rattle.gd_lines.specs.declared.reply.Reply.TheVariants as reply
use Rattle.gd_member.proofs.Cuts.{line_first}
use Rattle.gd_member.proofs.Texts.{text, text_push}
use Rattle.gd_member.specs.Cutting.{is_lf, line_end}
use Rattle.gd_member.specs.Gestures.{AreJudged, CarriesOut, IsCarriedOut, IsGesture, Judged, Judges, MakesIt, Parts}
use Rattle.gd_member.specs.Gestures.{asked_in, next_asked, parts, with_line, with_lines}
use Rattle.gd_member.specs.Lines.{PaysUpTo}
use Rattle.gd_member.specs.Members.{MemberValue, IsLive}
use Rattle.gd_member.specs.Standing.{Stands}
use Rattle.gd_member.specs.Unwritten.{AreUnwritten, UnwrittenValue}
use Rattle.gd_protocol.specs.Sites.{IsAsk}
use Rattle.gd_reference.specs.Backs.{Backs, with_gesture}
use Rattle.gd_reference.specs.InputLines.{lines_of}
use Rattle.gd_reference.specs.NodeRun.{IsRead, ReadLine, most_waiting}
use Rattle.gd_reference.specs.SiteEffects.{asked_replies, asked_reply}
use Rattle.gd_reference.specs.SlowSite.{SlowSite}
use Rattle.gd_reference.specs.TakeBack.{Asked, after_asked, after_gesture, answer, events_in, made, with_events}
use Rattle.gd_site.specs.Sites.{SiteValue, StandsFor}
use Rattle.gd_takeback.proofs.Doing.{made-more, made-none}
use Rattle.gd_takeback.proofs.Standing.{gesture_stands}
use Rattle.gd_takeback.specs.Lists.{GestureValue}
use Rattle.gd_takeback.specs.Making.{HasMade, Making, making}
use Rattle.gd_takeback.specs.Standing.{StandsWith}

-- ---- one line more

abbrev behind : SlowSite → List Asked → SlowSite
behind slow asked = with_events slow (made slow asked)

made_push : (slow : SlowSite) (asked : List Asked) (next : Asked)
    → made slow (asked ++ next ∷ []) ≡ made slow asked ++ events_in (answer (behind slow asked) next)
unfolding made with_events
made_push slow [] next = append-nil (events_in (answer slow next))
made_push slow (each ∷ asked) next =
    let first = events_in (answer slow each) in
    let there = after_asked slow each in
    ap (λ (es : List Event). first ++ es) (made_push there asked next)
    ∙ sym (append_assoc first (made there asked) (events_in (answer (behind there asked) next)))
    ∙ ap (λ (s : SlowSite). (first ++ made there asked) ++ events_in (answer s next))
    (sym (with_events-append slow first (made there asked)))

replies_push : (slow : SlowSite) (asked : List Asked) (next : Asked)
    → asked_replies slow (asked ++ next ∷ []) ≡ asked_replies slow asked ++ asked_reply
    (answer (behind slow asked) next) ∷ []
unfolding made asked_replies with_events
replies_push slow [] next = refl
replies_push slow (each ∷ asked) next =
    let first = events_in (answer slow each) in
    let there = after_asked slow each in
    let reply = asked_reply (answer slow each) in
    ap (λ (rs : List Reply). reply ∷ rs) (replies_push there asked next)
    ∙ ap (λ (s : SlowSite). reply ∷ (asked_replies there asked ++ asked_reply (answer s next) ∷ []))
    (sym (with_events-append slow first (made there asked)))

one_at_most : (r : Result Event Refusal) → length (events_in r) ≤ 1
one_at_most (Ok e) = omega arith
one_at_most (Err why) = omega arith

-- no more events than lines
pub made_few : (slow : SlowSite) (asked : List Asked) → length (made slow asked) ≤ length asked
unfolding made
made_few slow [] = omega arith
made_few slow (each ∷ asked) =
    let first = events_in (answer slow each) in
    omega (
      arith,
      length-append first (made (after_asked slow each) asked),
      one_at_most (answer slow each),
      made_few
          (after_asked slow each) asked,
    )

-- ---- what a line asks for

abbrev with_next : List Asked → Option Asked → List Asked
with_next asked None = asked
with_next asked (Some next) = asked ++ next ∷ []

line_next : (asked : List Asked) (line : ReadLine)
    → with_line asked line ≡ with_next asked (next_asked (length asked) line)
line_next asked (Ok (command.Edit wanted)) = refl
line_next asked (Ok (command.Turn which)) = refl
line_next asked (Ok (command.Focus focus)) = refl
line_next asked (Ok (command.Name name)) = refl
line_next asked (Ok command.Blank) = refl
line_next asked (Ok command.Show) = refl
line_next asked (Ok command.Poll) = refl
line_next asked (Ok command.Status) = refl
line_next asked (Ok command.Who) = refl
line_next asked (Ok command.Begin) = refl
line_next asked (Ok command.End) = refl
line_next asked (Ok command.Quit) = refl
line_next asked (Err why) = refl

abbrev AskOf : Option Asked → Type 0
AskOf None = Unit {0}
AskOf (Some next) = IsAsk next

full_ranged : (full : Bool) (next : Asked) → IsAsk next → IsAsk (cond full (Err GestureFull) next)
full_ranged true next is = tt
full_ranged false next is = is

next_ranged : (count : ℕ) (line : ReadLine) → IsRead line → AskOf (next_asked count line)
next_ranged count (Ok (command.Edit wanted)) is = full_ranged (nat_le most_waiting count) (Ok wanted) is
next_ranged count (Ok command.Blank) is = tt
next_ranged count (Ok (command.Turn which)) is = full_ranged (nat_le most_waiting count) (Err InGesture) tt
next_ranged count (Ok (command.Focus focus)) is = full_ranged (nat_le most_waiting count) (Err InGesture) tt
next_ranged count (Ok (command.Name name)) is = full_ranged (nat_le most_waiting count) (Err InGesture) tt
next_ranged count (Ok command.Show) is = full_ranged (nat_le most_waiting count) (Err InGesture) tt
next_ranged count (Ok command.Poll) is = full_ranged (nat_le most_waiting count) (Err InGesture) tt
next_ranged count (Ok command.Status) is = full_ranged (nat_le most_waiting count) (Err InGesture) tt
next_ranged count (Ok command.Who) is = full_ranged (nat_le most_waiting count) (Err InGesture) tt
next_ranged count (Ok command.Begin) is = full_ranged (nat_le most_waiting count) (Err InGesture) tt
next_ranged count (Ok command.End) is = full_ranged (nat_le most_waiting count) (Err InGesture) tt
next_ranged count (Ok command.Quit) is = full_ranged (nat_le most_waiting count) (Err InGesture) tt
next_ranged count (Err why) is = full_ranged (nat_le most_waiting count) (Err (line_refusal why)) tt

pub asks_in_range : (count : ℕ) (line : ReadLine) (next : Asked) → IsRead line → next_asked count line ≡ Some next
    → IsAsk next
asks_in_range count line next read is = subst AskOf is (next_ranged count line read)

-- ---- judged so far

pub judged_none : (slow : SlowSite) (m : Making) → StandsFor slow m.site → m.gesture.events ≡ [] → m.gesture.back ≡ []
    → (told : List ℕ) (steps : ℕ)
    → AreJudged slow [] 0 m told told steps steps
unfolding made asked_replies
judged_none slow m stands events back told steps = record {
  ranged = tt;
  counted = refl;
  has = made-none slow m stands events back;
  said = sym (append-nil told);
  steps = omega arith;
}

-- the event of a line, behind those that were made
made_by : (slow : SlowSite) (es : List Event) (r : Result Event Refusal) (old new : Making) → HasMade slow es old
    → MakesIt r (with_events slow es) old new
    → HasMade slow (es ++ events_in r) new
made_by slow es (Ok e) old new has makes = made-more slow es e old new has makes
made_by slow es (Err why) old new has same =
    subst (λ (fs : List Event). HasMade slow fs new) (sym (append-nil es)) (subst (HasMade slow es) (sym same) has)

module _ (slow : SlowSite) (asked : List Asked) (count : ℕ) (told now : List ℕ) (before paid : ℕ) where
  -- the next line was judged
  judged_more : (next : Asked) (said : Reply) (old new : Making) (then : List ℕ) (pays : ℕ) → IsAsk next
      → AreJudged slow asked count old told now before paid
      → ((there : SlowSite) → StandsFor there old.site → Judges there next said old new paid pays)
      → then ≡ now ++ reply_text said
      → AreJudged slow (asked ++ next ∷ []) (count + 1) new told then before pays
  judged_more next said old new then pays ranged s judges says =
      let there = behind slow asked in
      let j = judges there s.has.site in
      let more = events_in (answer there next) in
      let grown = ap (λ (es : List Event). length es) (made_push slow asked next) in
      record {
        ranged = Every-append IsAsk asked (next ∷ []) s.ranged (ranged, tt);
        counted = omega (arith, s.counted, length-append asked (next ∷ []));
        has =
            subst (λ (es : List Event). HasMade slow es new) (sym (made_push slow asked next))
            (made_by slow (made slow asked) (answer there next) old new s.has j.makes);
        said =
            text_push told now then (asked_replies slow asked) said s.said says
            ∙ ap (λ (rs : List Reply). told ++ text rs)
            (ap (λ (r : Reply). asked_replies slow asked ++ r ∷ []) j.said_is ∙ sym (replies_push slow asked next));
        steps = omega (arith, j.steps, s.steps, length-append (made slow asked) more, grown);
      }

  module _ (line : ReadLine) where
    line_is : (o : Option Asked) → count ≡ length asked → next_asked count line ≡ o
        → with_line asked line ≡ with_next asked o
    line_is o counted is =
        line_next asked line ∙ ap (λ (n : ℕ). with_next asked (next_asked n line)) (sym counted)
        ∙ ap (with_next asked) is

    module _ (next : Asked) (is : next_asked count line ≡ Some next) (ranged : IsAsk next) (said : Reply)
        (old new : Making) (then : List ℕ) (pays : ℕ) where
      -- it isn't blank
      pub line_judged : AreJudged slow asked count old told now before paid
          → ((there : SlowSite) → StandsFor there old.site → Judges there next said old new paid pays)
          → then ≡ now ++ reply_text said → AreJudged slow (with_line asked line) (count + 1) new told then before pays
      line_judged s judges says =
          subst (λ (l : List Asked). AreJudged slow l (count + 1) new told then before pays)
          (sym (line_is (Some next) s.counted is))
          (judged_more next said old new then pays ranged s judges says)

    -- memory ran out before it was judged
    made_less : (o : Option Asked) → length (made slow asked) ≤ length (made slow (with_next asked o))
    made_less None = omega arith
    made_less (Some next) =
        let grown = ap (λ (es : List Event). length es) (made_push slow asked next) in
        omega (arith, grown, length-append (made slow asked) (events_in (answer (behind slow asked) next)))

    pub line_cut : (m : Making) (pays : ℕ) → AreJudged slow asked count m told now before paid → pays ≡ paid
        → PaysUpTo (length (made slow (with_line asked line))) before pays
    line_cut m pays s same =
        let o = next_asked (length asked) line in
        let less =
        subst (λ (l : List Asked). length (made slow asked) ≤ length (made slow l)) (sym (line_next asked line))
        (made_less o) in
        record { least = omega (arith, s.steps, same); most_paid = omega (arith, s.steps, same, less) }

-- all that was judged was paid
pub judged_paid : {slow : SlowSite} {asked : List Asked} {count : ℕ} {m : Making} {told now : List ℕ} {before paid : ℕ}
    → AreJudged slow asked count m told now before paid
    → PaysUpTo (length (made slow asked)) before paid
judged_paid s = record { least = omega (arith, s.steps); most_paid = omega (arith, s.steps) }

pub judged_short : (slow : SlowSite) (asked : List Asked) (r : Result ℕ AllocError) → IsErr r
    → (m : Making) (told now : List ℕ) (before after : ℕ)
    → PaysUpTo (length (made slow asked)) before after → Judged slow asked r m told now before after
judged_short slow asked (Ok count) is m told now before after paid = let e = is in cc
judged_short slow asked (Err why) is m told now before after paid = paid

pub judged_few : {slow : SlowSite} {asked : List Asked} {count : ℕ} {m : Making} {told now : List ℕ} {before paid : ℕ}
    → AreJudged slow asked count m told now before paid
    → length m.gesture.events ≤ count
judged_few {slow} {asked} s =
    omega (arith, s.counted, made_few slow asked, ap (λ (es : List Event). length es) s.has.events)

-- ---- all lines

lines_less : (slow : SlowSite) (lines : List (List ℕ)) (asked : List Asked)
    → length (made slow asked) ≤ length (made slow (with_lines asked lines))
unfolding with_lines
lines_less slow [] asked = omega arith
lines_less slow (line ∷ lines) asked =
    let here = line_less (read line) in omega (arith, here, lines_less slow lines (with_line asked (read line)))
  where
    line_less : (r : ReadLine) → length (made slow asked) ≤ length (made slow (with_line asked r))
    line_less r =
        subst (λ (l : List Asked). length (made slow asked) ≤ length (made slow l)) (sym (line_next asked r))
        (made_less slow asked 0 [] [] 0 0 r (next_asked (length asked) r))

-- some lines were judged; with those from there on they are all
pub record SoFar (slow : SlowSite) (bytes : List ℕ) (start count : ℕ) (m : Making) (told now : List ℕ)
    (before paid : ℕ) : Type 0 where
  pub asked : List Asked
  pub judged : AreJudged slow asked count m told now before paid
  pub all : with_lines asked (lines_of (drop start bytes)) ≡ asked_in bytes

pub so_far_none : (slow : SlowSite) (bytes : List ℕ) {m : Making} {told : List ℕ} {steps : ℕ}
    → AreJudged slow [] 0 m told told steps steps → SoFar slow bytes 0 0 m told told steps steps
so_far_none slow bytes judged = record { asked = []; judged = judged; all = refl }

-- what is left from there on
pub some_left : (bytes left : List ℕ) (start : ℕ) → left ≡ drop start bytes → start < length bytes → 0 < length left
some_left bytes left start is below = omega (arith, below, ap (λ (l : List ℕ). length l) is, length-drop start bytes)

pub end_within : (bytes left line : List ℕ) (start : ℕ) → left ≡ drop start bytes → start < length bytes
    → length line ≡ line_end left → start + (length line + 1) ≤ length bytes + 1
end_within bytes left line start is below len =
    let inside : line_end left ≤ length left = prefix_len-le-length (λ b. not (is_lf b)) left in
    omega (arith, below, ap (λ (l : List ℕ). length l) is, length-drop start bytes, len, inside)

one_line : (bytes : List ℕ) → 0 < length bytes
    → lines_of bytes ≡ take (line_end bytes) bytes ∷ lines_of (drop (line_end bytes + 1) bytes)
one_line [] some = absurd (omega (arith, some))
one_line (byte ∷ bytes) some = line_first byte bytes

lines_more : (asked : List Asked) (bytes : List ℕ) → 0 < length bytes
    → with_lines (with_line asked (read (take (line_end bytes) bytes))) (lines_of (drop (line_end bytes + 1) bytes))
    ≡ with_lines asked (lines_of bytes)
unfolding with_lines
lines_more asked bytes some = ap (with_lines asked) (sym (one_line bytes some))

module _ (slow : SlowSite) (bytes : List ℕ) (start : ℕ) (told : List ℕ) (before : ℕ) {count : ℕ} {m : Making}
    {now : List ℕ} {paid : ℕ} (s : SoFar slow bytes start count m told now before paid) where
  -- the line from there on, up to `end`
  line_all : (line left : List ℕ) → left ≡ drop start bytes → line ≡ take (line_end left) left → 0 < length left
      → (end : ℕ) → end ≡ start + (line_end left + 1)
      → with_lines (with_line s.asked (read line)) (lines_of (drop end bytes)) ≡ asked_in bytes
  line_all line left is line_is some end ends =
      ap (λ (l : List ℕ). with_lines (with_line s.asked (read l)) (lines_of (drop end bytes))) line_is
      ∙ ap (λ (l : List ℕ). with_lines (with_line s.asked (read (take (line_end left) left))) (lines_of l))
      (ap (λ (n : ℕ). drop n bytes) ends ∙ sym (drop-drop (line_end left + 1) start bytes)
      ∙ ap (λ (l : List ℕ). drop (line_end left + 1) l) (sym is))
      ∙ lines_more s.asked left some ∙ ap (λ (l : List ℕ). with_lines s.asked (lines_of l)) is ∙ s.all

  pub so_far_more : (line left : List ℕ) → left ≡ drop start bytes → line ≡ take (line_end left) left → 0 < length left
      → (end : ℕ) → end ≡ start + (line_end left + 1)
      → (r : ReadLine) → r ≡ read line → (count' : ℕ) (new : Making) (then : List ℕ) (pays : ℕ)
      → AreJudged slow (with_line s.asked r) count' new told then before pays
      → SoFar slow bytes end count' new told then before pays
  so_far_more line left is line_is some end ends r r_is count' new then pays judged = record {
    asked = with_line s.asked (read line);
    judged =
        subst (λ (z : ReadLine). AreJudged slow (with_line s.asked z) count' new told then before pays) r_is judged;
    all = line_all line left is line_is some end ends;
  }

  -- memory ran out at that line
  pub so_far_cut : (line left : List ℕ) → left ≡ drop start bytes → line ≡ take (line_end left) left → 0 < length left
      → (r : ReadLine) → r ≡ read line → (pays : ℕ) → PaysUpTo (length (made slow (with_line s.asked r))) before pays
      → PaysUpTo (length (made slow (asked_in bytes))) before pays
  so_far_cut line left is line_is some r r_is pays given =
      let paid = subst (λ (z : ReadLine). PaysUpTo (length (made slow (with_line s.asked z))) before pays) r_is given in
      let end = start + (line_end left + 1) in
      let less =
      subst (λ (l : List Asked). length (made slow (with_line s.asked (read line))) ≤ length (made slow l))
      (line_all line left is line_is some end refl)
      (lines_less slow (lines_of (drop end bytes)) (with_line s.asked (read line))) in
      record { least = paid.least; most_paid = omega (arith, paid.most_paid, less) }

  -- there is none
  pub so_far_all : drop start bytes ≡ [] → AreJudged slow (asked_in bytes) count m told now before paid
  unfolding with_lines lines_of
  so_far_all none =
      let all : s.asked ≡ asked_in bytes = ap (λ (l : List ℕ). with_lines s.asked (lines_of l)) (sym none) ∙ s.all in
      subst (λ (l : List Asked). AreJudged slow l count m told now before paid) all s.judged

-- ---- the gesture

pub carried_short : (slow : SlowSite) (written others : List Event) (asked : List Asked) (r : Result ℕ AllocError)
    → IsErr r → (p : Parts) (told now : List ℕ) (before after : ℕ)
    → PaysUpTo (length (made slow asked)) before after → CarriesOut slow written others asked r p told now before after
carried_short slow written others asked (Ok refused) is p told now before after paid = let e = is in cc
carried_short slow written others asked (Err why) is p told now before after paid = paid

-- its events are kept and put with the unwritten ones, and the number of its lines is said
pub carried_out : (slow : SlowSite) (written others : List Event) (asked : List Asked) {count : ℕ} {site : SiteValue}
    {gesture : GestureValue} {told now : List ℕ} {before after : ℕ} (old : SiteValue) (backs kept : Backs)
    → StandsWith slow old backs → AreJudged slow asked count (making site gesture) told now before after
    → kept ≡ with_gesture gesture.back backs
    → (es : List Event) → es ≡ gesture.events → (unwritten : UnwrittenValue)
    → AreUnwritten written (others ++ es) unwritten
    → (then : List ℕ) → then ≡ now ++ reply_text (reply.End count) → (refused : ℕ) → refused + length es ≡ count
    → IsCarriedOut slow written others asked refused (parts site kept unwritten) told then before after
carried_out slow written others asked {count} {site} {gesture} {told} {now} old backs kept stands s keeps es is u are
    then says refused counts =
    let same : es ≡ made slow asked = is ∙ s.has.events in
    record {
      refused_are = sym (ap (λ (l : List Event). refused + length l) same) ∙ counts ∙ s.counted;
      stands = gesture_stands slow stands asked s.ranged (making site gesture) s.has kept keeps;
      unwritten = subst (λ (l : List Event). AreUnwritten written (others ++ l) u) same are;
      said =
          text_push told now then (asked_replies slow asked) (reply.End count) s.said says
          ∙ ap (λ (n : ℕ). told ++ text (asked_replies slow asked ++ reply.End n ∷ [])) s.counted;
      steps = s.steps;
    }

held_after : (slow : SlowSite) (asked : List Asked) → (after_gesture slow asked).held ≡ slow.held ++ made slow asked
unfolding after_gesture
held_after slow asked = ap (λ (s : SlowSite). s.held) (with_events-is slow (made slow asked))

-- the member that has these parts
pub gesture_member : {slow : SlowSite} {written : List Event} {asked : List Asked} {refused : ℕ} {old : MemberValue}
    (stands : Stands slow written old) (new : MemberValue) {told now : List ℕ} {before after : ℕ}
    → IsCarriedOut slow written stands.others asked refused
    (parts new.site new.backs new.unwritten) told now before after → IsLive new
    → IsGesture slow written asked refused new told now before after
gesture_member {slow} {written} {asked} stands new out live = record {
  refused_are = out.refused_are;
  stands = record {
    live = live;
    stands = out.stands;
    others = stands.others ++ made slow asked;
    held =
        held_after slow asked ∙ ap (λ (l : List Event). l ++ made slow asked) stands.held
        ∙ append_assoc written stands.others (made slow asked);
    unwritten = out.unwritten;
  };
  said = out.said;
  steps = out.steps;
}
