-- How a datagram is taken.
use Rattle.std.proofs.Common.{◌≡◌, ◌∙◌, ℕ, ◌+◌, true, false, cond, List, [], ◌∷◌, ◌++◌, refl, sym, ap, subst}
use Rattle.std.proofs.Common.{append-nil, arith}
use Rattle.std.specs.List.{flat_map}
use Rattle.std.specs.Prelude.{None, OnErr, OnOk, Result}
use Rattle.std.specs.declared.alloc.AllocError.{AllocError}
use Rattle.gd_answers.proofs.Heard.{Leaves, accepts}
use Rattle.gd_answers.specs.Arriving.{heard, replies_of, taken_of}
use Rattle.gd_answers.specs.Paying.{PaysFront}
use Rattle.gd_answers.specs.declared.arrived.Arrived.{Arrived}
use Rattle.gd_base.specs.declared.verdict.Verdict.{Verdict}
use Rattle.gd_base.specs.declared.verdict.Verdict.TheVariants.{Taken}
use Rattle.gd_effects.proofs.Doing.{on_ok}
use Rattle.gd_effects.specs.Effects.{Effect, cost}
use Rattle.gd_events.specs.Events.{Event}
use Rattle.gd_grammar.specs.FrameBytes.{Frame, Misread, frame}
use Rattle.gd_lines.specs.Replies.{reply_text}
use Rattle.gd_lines.specs.declared.reply.Reply.{Reply}
use Rattle.gd_lines.specs.declared.reply.Reply.TheVariants as reply
use Rattle.gd_logs.proofs.WriterLemmas.{on_err}
use Rattle.gd_member.proofs.Pieces.{none_more}
use Rattle.gd_member.proofs.Standing.{stands_more}
use Rattle.gd_member.specs.Members.{IsLive, MemberValue}
use Rattle.gd_member.specs.Standing.{Stands}
use Rattle.gd_member.specs.Taking.{TakesIn, datagram_replies, datagram_works, read_replies, read_works}
use Rattle.gd_member.specs.Unwritten.{AreUnwritten, UnwrittenValue}
use Rattle.gd_protocol.proofs.Backs.{backs_take_frame}
use Rattle.gd_reference.specs.NodeRun.{is_too_long, sender, sender_by, sender_of}
use Rattle.gd_reference.specs.Offers.{take_frame, verdict}
use Rattle.gd_reference.specs.SiteEffects.{frame_replies}
use Rattle.gd_reference.specs.SlowSite.{SlowSite}
use Rattle.gd_site.specs.Sites.{StandsFor}

-- ---- a frame

-- whose frame it was, by what was found of it
pub sender_at : (slow : SlowSite) (f : Frame) {v : Verdict} → verdict slow f ≡ v
    → sender_by v f.head.from ≡ sender_by (verdict slow f) f.head.from
sender_at slow f is = ap (λ (v : Verdict). sender_by v f.head.from) (sym is)

module _ (slow : SlowSite) (f : Frame) where
  -- one that isn't taken
  pub takes_nothing : {replies : List Reply} {then : SlowSite} (u : UnwrittenValue) → Leaves slow f replies then
      → then.held ≡ slow.held → TakesIn slow f u u
  takes_nothing u leaves same = record {
    more = [];
    held = ap (λ (s : SlowSite). s.held) leaves.then_is ∙ same ∙ sym (append-nil slow.held);
    put = λ written others are. none_more written others u are;
  }

  -- one that is
  pub takes_all : (came : List Arrived) {u v : UnwrittenValue} → verdict slow f ≡ Taken → heard slow f.events ≡ came
      → ((written others : List Event) → AreUnwritten written others u
      → AreUnwritten written (others ++ taken_of f.events came) v)
      → TakesIn slow f u v
  takes_all came judged is put = record {
    more = taken_of f.events came;
    held = (accepts slow f came judged is).held_is;
    put = put;
  }

  -- the member stands for the site that took it
  pub stands_taken : {written : List Event} {m m' : MemberValue} → Stands slow written m → IsLive m'
      → StandsFor (take_frame slow f) m'.site → m'.backs ≡ m.backs → TakesIn slow f m.unwritten m'.unwritten
      → Stands (take_frame slow f) written m'
  stands_taken {written} st live site backs takes =
      stands_more st takes.more takes.held live
      (record { site = site; backs_are = backs ∙ st.stands.backs_are ∙ sym (backs_take_frame slow f) })
      (λ others are. takes.put written others are)

-- ---- what is said

-- one reply
pub said_one : (old new : List ℕ) (said : Reply) (replies : List Reply) → new ≡ old ++ reply_text said
    → replies ≡ said ∷ [] → new ≡ old ++ flat_map reply_text replies
said_one old new said replies put are =
    put ∙ ap (λ l. old ++ l) (sym (append-nil (reply_text said)) ∙ ap (flat_map reply_text) (sym are))

-- none
pub said_none : (old : List ℕ) (replies : List Reply) → replies ≡ [] → old ≡ old ++ flat_map reply_text replies
said_none old replies are = sym (append-nil old) ∙ ap (λ l. old ++ flat_map reply_text l) (sym are)

-- ---- its steps

-- all of them were taken
pub pays_all : {before after : ℕ} (xs : List Effect) → after ≡ before + cost xs → PaysFront before xs after
pays_all xs paid = record { front = xs; back = []; split = sym (append-nil xs); paid = paid }

-- none was
pub pays_none : (before : ℕ) (xs : List Effect) → PaysFront before xs before
pays_none before xs = record { front = []; back = xs; split = refl; paid = omega arith }

-- what has none
module _ {T : Type 0} (r : Result T AllocError) (steps : ℕ) {xs : List Effect} (none : xs ≡ []) where
  pub idle : OnOk r (steps ≡ steps + cost xs)
  idle = on_ok r (omega (arith, ap cost none))

  pub idle_err : OnErr r (PaysFront steps xs steps)
  idle_err = on_err r (pays_none steps xs)

-- ---- what is taken, by what was found of each event

module _ (slow : SlowSite) (f : Frame) (came : List Arrived) (judged : verdict slow f ≡ Taken)
    (is : heard slow f.events ≡ came) {es : List Event} {of_events : List Arrived} (es_are : es ≡ f.events)
    (came_are : of_events ≡ came) where
  pub takes_found : {u v : UnwrittenValue}
      → ((written others : List Event) → AreUnwritten written others u
      → AreUnwritten written (others ++ taken_of es of_events) v) → TakesIn slow f u v
  takes_found {u} {v} put =
      takes_all slow f came judged is
      (λ written others are.
      subst (λ (l : List Event). AreUnwritten written (others ++ l) v) (λ i. taken_of (es_are i) (came_are i))
      (put written others are))

  pub said_found : (old new : List ℕ) → new ≡ old ++ flat_map reply_text (replies_of es of_events)
      → new ≡ old ++ flat_map reply_text (frame_replies slow f)
  said_found old new put =
      put
      ∙ ap (λ (l : List Reply). old ++ flat_map reply_text l)
      ((λ i. replies_of (es_are i) (came_are i)) ∙ sym (accepts slow f came judged is).replies)

-- ---- a datagram that is read

module _ (slow : SlowSite) (bytes : List ℕ) (fits : is_too_long bytes ≡ false) (r : Result Frame Misread)
    (is : frame bytes ≡ r) where
  pub read_said : datagram_replies slow bytes ≡ read_replies slow bytes r
  read_said =
      ap (λ b. cond b (reply.LongFrame ∷ []) (read_replies slow bytes (frame bytes))) fits
      ∙ ap (read_replies slow bytes) is

  pub read_worked : datagram_works slow bytes ≡ read_works slow r
  read_worked =
      ap (λ b. cond b [] (read_works slow (frame bytes))) fits ∙ ap (read_works slow) is

  pub read_sender : sender slow bytes ≡ sender_of slow r
  read_sender = ap (λ b. cond b None (sender_of slow (frame bytes))) fits ∙ ap (sender_of slow) is

-- one that is too long takes no steps
pub long_worked : (slow : SlowSite) (bytes : List ℕ) → is_too_long bytes ≡ true → datagram_works slow bytes ≡ []
long_worked slow bytes long = ap (λ b. cond b [] (read_works slow (frame bytes))) long
