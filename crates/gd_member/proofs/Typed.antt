-- What a typed line comes to, and what a call leaves.
use Rattle.std.proofs.Common.{◌≡◌, ℕ, ◌+◌, Bool, true, false, cond, List, [], ◌∷◌, ◌++◌, length, refl, sym, ◌∙◌, ap}
use Rattle.std.proofs.Common.{subst, append-nil, arith}
use Rattle.std.specs.List.{flat_map}
use Rattle.std.specs.Prelude.{Option, None, Some, Result, Ok, Err, IfOk, IsErr, OnErr, OnOk, nat_le, option_map}
use Rattle.std.specs.declared.alloc.AllocError.{AllocError}
use Rattle.gd_answers.proofs.Refused.{IsErrAs, edit_as, turn_as}
use Rattle.gd_answers.proofs.Replies.{next_said}
use Rattle.gd_answers.specs.Noting.{noted_reply}
use Rattle.gd_answers.specs.Refusals.{refused_edit, refused_turn}
use Rattle.gd_base.specs.Stamps.{Stamp}
use Rattle.gd_base.specs.declared.refusal.EditRefusal.{EditRefusal}
use Rattle.gd_base.specs.declared.refusal.LineFault.{LineFault}
use Rattle.gd_base.specs.declared.refusal.Refusal.{Refusal}
use Rattle.gd_base.specs.declared.site_status.SiteStatus.{SiteStatus}
use Rattle.gd_events.specs.Events.{Event}
use Rattle.gd_lines.specs.Edits.{Edit}
use Rattle.gd_lines.specs.Refusals.{edit_refusal, line_refusal}
use Rattle.gd_lines.specs.Replies.{reply_text}
use Rattle.gd_lines.specs.declared.command.Command.{Command}
use Rattle.gd_lines.specs.declared.command.Command.TheVariants as command
use Rattle.gd_lines.specs.declared.command.Turn.{Turn}
use Rattle.gd_lines.specs.declared.reply.Reply.{Reply}
use Rattle.gd_lines.specs.declared.reply.Reply.TheVariants as reply
use Rattle.gd_member.specs.Lines.{Answers, IsCut, after_typed, line_events, line_replies, told_by, told_note, told_of}
use Rattle.gd_member.specs.Members.{MemberValue}
use Rattle.gd_member.specs.Standing.{Stands}
use Rattle.gd_member.specs.declared.told.Told.{Told}
use Rattle.gd_member.specs.declared.told.Told.TheVariants as answer
use Rattle.gd_reference.specs.Backs.{with_gesture}
use Rattle.gd_reference.specs.Judging.{edit}
use Rattle.gd_reference.specs.NodeRun.{ReadLine, received, who_replies}
use Rattle.gd_reference.specs.SiteEffects.{done_replies, edit_reply, note_reply, turn_replies, turned}
use Rattle.gd_reference.specs.SlowSite.{SlowSite, status}
use Rattle.gd_reference.specs.TakeBack.{BackRefusal, after_edit, after_turn, back_refusal, backs_of, events_in, turn}
use Rattle.gd_reference.specs.TakeBack.{with_events, with_made, with_turned}
use Rattle.gd_reference.specs.World.{after_line, most_notes}
use Rattle.gd_judging.specs.Faults.{EditIs}
use Rattle.gd_site.specs.Answers.{next_note}
use Rattle.gd_judging.specs.declared.faults.EditFault.{EditFault}
use Rattle.gd_site.specs.declared.answers.NoteEnd as site
use Rattle.gd_takeback.specs.Answers.{OnBackRefusal, PaysFor, StampIs, TurnIs}
use Rattle.gd_takeback.specs.declared.take_back.BackFault.{BackFault}
use Rattle.gd_takeback.specs.declared.take_back.BackFault.TheVariants as fault

-- ---- what is done

-- the line comes to this, is answered so, and becomes so many events
pub record ComesTo (slow : SlowSite) (line : ReadLine) (told : Told) (replies : List Reply) (count : ℕ) : Type 0 where
  pub told_is : told ≡ told_of slow line
  pub replies_are : replies ≡ line_replies slow line
  pub counts : length (line_events slow line) ≡ count

pub edit_comes : (slow : SlowSite) (wanted : Edit) (id : Stamp) → StampIs (edit slow wanted) (Ok id)
    → ComesTo slow (Ok (command.Edit wanted)) answer.Done (reply.Done id ∷ []) 1
edit_comes slow wanted id is = record {
  told_is = ap told_by (sym is.1);
  replies_are = ap (λ (s : Stamp). reply.Done s ∷ []) is.2 ∙ ap (λ r. edit_reply r ∷ []) (sym is.1);
  counts = ap (λ r. length (events_in r)) is.1;
}

pub turn_comes : (slow : SlowSite) (which : Turn) (es : List Event) → turn slow which ≡ Ok es
    → ComesTo slow (Ok (command.Turn which)) answer.Done (done_replies es) (length es)
turn_comes slow which es is = record {
  told_is = ap told_by (sym is);
  replies_are = ap turn_replies (sym is);
  counts = ap (λ r. length (turned r)) is;
}

told_next : (slow : SlowSite) → told_by (next_note (slow.notes slow.me).number) ≡ told_note slow
told_next slow = by (nat_le most_notes (slow.notes slow.me).number) (slow.notes slow.me).number
  where
    by : (full : Bool) (n : ℕ)
        → told_by {T = ℕ} {Why = site.NoteEnd}
        (cond full (Err record {}) (Ok (n + 1))) ≡ cond full answer.Refused answer.Done
    by true n = refl
    by false n = refl

module _ (slow : SlowSite) (noted : Result ℕ site.NoteEnd) (is : noted ≡ next_note (slow.notes slow.me).number) where
  note_comes : noted_reply noted ∷ [] ≡ note_reply slow ∷ []
  note_comes = ap (λ r. r ∷ []) (ap noted_reply is ∙ next_said slow)

  pub name_comes : (name : List ℕ) → ComesTo slow (Ok (command.Name name)) (told_by noted) (noted_reply noted ∷ []) 0
  name_comes name = record { told_is = ap told_by is ∙ told_next slow; replies_are = note_comes; counts = refl }

  pub focus_comes : (focus : Option Stamp)
      → ComesTo slow (Ok (command.Focus focus)) (told_by noted) (noted_reply noted ∷ []) 0
  focus_comes focus = record { told_is = ap told_by is ∙ told_next slow; replies_are = note_comes; counts = refl }

-- ---- what is refused

-- the line is refused so, and nothing changes; where memory ran out nothing is said of it
pub record RefusesAs (why : Refusal) (slow : SlowSite) (line : ReadLine) : Type 0 where
  pub comes : ComesTo slow line answer.Refused (reply.Refused why ∷ []) 0
  pub same : slow ≡ after_typed slow line

abbrev pub Refuses : Option Refusal → SlowSite → ReadLine → Type 0
Refuses None slow line = Unit {0}
Refuses (Some why) slow line = RefusesAs why slow line

pub edit_refuses : (slow : SlowSite) (wanted : Edit) (why : EditFault) → EditIs (edit slow wanted) (Err why)
    → Refuses (option_map edit_refusal (refused_edit why)) slow (Ok (command.Edit wanted))
unfolding after_edit after_line with_events backs_of
edit_refuses slow wanted why is = go (refused_edit why) (edit_as (edit slow wanted) why is)
  where
    go : (w : Option EditRefusal) → IsErrAs w (edit slow wanted)
        → Refuses (option_map edit_refusal w) slow (Ok (command.Edit wanted))
    go None k = tt
    go (Some refusal) k = record {
      comes = record {
        told_is = ap told_by (sym k);
        replies_are = ap (λ r. edit_reply r ∷ []) (sym k);
        counts = ap (λ r. length (events_in r)) k;
      };
      same = ap (λ r. with_made slow (events_in r) with_gesture) (sym k);
    }

pub turn_refuses : (slow : SlowSite) (which : Turn) (why : BackFault) → TurnIs (turn slow which) (Err why)
    → Refuses (option_map back_refusal (refused_turn why)) slow (Ok (command.Turn which))
unfolding after_turn after_line
turn_refuses slow which why is = go (refused_turn why) (turn_as (turn slow which) why is)
  where
    go : (w : Option BackRefusal) → IsErrAs w (turn slow which)
        → Refuses (option_map back_refusal w) slow (Ok (command.Turn which))
    go None k = tt
    go (Some refusal) k = record {
      comes = record {
        told_is = ap told_by (sym k);
        replies_are = ap turn_replies (sym k);
        counts = ap (λ r. length (turned r)) k;
      };
      same = ap (with_turned slow which) (sym k);
    }

pub fault_refuses : (slow : SlowSite) (why : LineFault) → Refuses (Some (line_refusal why)) slow (Err why)
fault_refuses slow why = record { comes = record { told_is = refl; replies_are = refl; counts = refl }; same = refl }

-- ---- what a call leaves

pub on_ok_through : {T U E : Type 0} (P : Type 0) (r : Result T E) (added : Result (Unit {0}) U)
    → OnOk r (added ≡ Ok tt) → OnOk added P → OnOk r P
on_ok_through P (Ok v) added is given = subst (λ z. OnOk z P) is given
on_ok_through P (Err e) added is given = tt

pub one_said : (told : List ℕ) (said : Reply) → told ++ reply_text said ≡ told ++ flat_map reply_text (said ∷ [])
one_said told said = ap (λ (l : List ℕ). told ++ l) (sym (append-nil (reply_text said)))

module _ (slow : SlowSite) (written : List Event) (line : ReadLine) (told now : List ℕ) (before after : ℕ) where
  -- the line was done, and that was said; where that found no memory the member is spent
  pub answers_done : {came : Told} {replies : List Reply} {count : ℕ} → ComesTo slow line came replies count
      → {done : MemberValue} (new : MemberValue) → Stands (after_typed slow line) written done → after ≡ before + count
      → (r : Result Told AllocError) → IfOk r (λ t. t ≡ came) → OnOk r (now ≡ told ++ flat_map reply_text replies)
      → OnOk r (new ≡ done) → OnErr r (new.spent ≡ true)
      → Answers slow written line r new told now before after
  answers_done comes new stands paid (Ok t) is said same spent = record {
    answer_is = is ∙ comes.told_is;
    stands = subst (λ m. Stands (after_typed slow line) written m) (sym same) stands;
    said = said ∙ ap (λ (rs : List Reply). told ++ flat_map reply_text rs) comes.replies_are;
    steps = omega (arith, paid, comes.counts);
  }
  answers_done comes new stands paid (Err why) is said same spent = record {
    stands = λ live. let e = sym spent ∙ live in cc;
    steps = record { least = omega (arith, paid); most_paid = omega (arith, paid, comes.counts) };
  }

  -- the same of one reply
  pub answers_said : {came : Told} {reply : Reply} {count : ℕ} → ComesTo slow line came (reply ∷ []) count
      → {done : MemberValue} (new : MemberValue) → Stands (after_typed slow line) written done → after ≡ before + count
      → (r : Result Told AllocError) → IfOk r (λ t. t ≡ came) → OnOk r (now ≡ told ++ reply_text reply)
      → OnOk r (new ≡ done) → OnErr r (new.spent ≡ true)
      → Answers slow written line r new told now before after
  answers_said {reply = said} comes new stands paid (Ok t) is says same spent =
      answers_done comes new stands paid (Ok t) is (says ∙ one_said told said) same spent
  answers_said comes new stands paid (Err why) is says same spent =
      answers_done comes new stands paid (Err why) is tt same spent

  -- nothing is done of it, and nothing changes
  pub answers_asked : {replies : List Reply} {came : Told} → ComesTo slow line came replies 0
      → slow ≡ after_typed slow line
      → (m : MemberValue) → Stands slow written m → after ≡ before → now ≡ told ++ flat_map reply_text replies
      → Answers slow written line (Ok came) m told now before after
  answers_asked comes same m stands idle said = record {
    answer_is = comes.told_is;
    stands = subst (λ s. Stands s written m) same stands;
    said = said ∙ ap (λ (rs : List Reply). told ++ flat_map reply_text rs) comes.replies_are;
    steps = omega (arith, idle, comes.counts);
  }

  pub cut_asked : {m : MemberValue} → Stands slow written m → after ≡ before → IsCut slow written line m before after
  cut_asked stands idle =
      record {
        stands = λ live. stands;
        steps = record { least = omega (arith, idle); most_paid = omega (arith, idle) };
      }

-- that a refusal was said, and nothing where memory ran out
abbrev pub SaysWhy : Option Refusal → Result Told AllocError → List ℕ → List ℕ → Type 0
SaysWhy why r told now =
    IfOk r (λ t. (t ≡ answer.Refused) × (reason : Refusal) × (why ≡ Some reason)
    × (now ≡ told ++ reply_text (reply.Refused reason)))

module _ (slow : SlowSite) (written : List Event) (line : ReadLine) (told now : List ℕ) (before after : ℕ)
    (m : MemberValue) where
  -- a line that is refused
  pub answers_refused : (why : Option Refusal) → Refuses why slow line → Stands slow written m → after ≡ before
      → (r : Result Told AllocError) → SaysWhy why r told now → Answers slow written line r m told now before after
  answers_refused why owes stands idle (Ok t) says =
      let k : RefusesAs says.1 slow line = subst (λ w. Refuses w slow line) says.2 owes in
      subst (λ z. Answers slow written line (Ok z) m told now before after) (sym says.0)
      (answers_asked slow written line told now before after k.comes k.same m stands idle
      (says.3 ∙ one_said told (reply.Refused says.1)))
  answers_refused why owes stands idle (Err short) says = cut_asked slow written line told now before after stands idle

abbrev unturned : BackFault → Result (List Event) BackFault
unturned why = Err why

-- an undo, or a redo, that isn't done: where memory ran out the member is spent
pub answers_unturned : (slow : SlowSite) (written : List Event) (which : Turn) (told now : List ℕ) (before after : ℕ)
    (m : MemberValue) (why : BackFault)
    → TurnIs (turn slow which) (Err why) → OnBackRefusal (Err why) (Stands slow written m)
    → PaysFor (length (turned (turn slow which))) (Err why) before after
    → (unturned why ≡ unturned fault.NoMemory → m.spent ≡ true) → (r : Result Told AllocError)
    → SaysWhy (option_map back_refusal (refused_turn why)) r told now
    → Answers slow written (Ok (command.Turn which)) r m told now before after
answers_unturned slow written which told now before after m fault.NoMemory is stands paid spent (Ok t) says =
    let e = says.2 in cc
answers_unturned slow written which told now before after m fault.NoMemory is stands paid spent (Err short) says =
    record {
      stands = λ live. let e = sym (spent refl) ∙ live in cc;
      steps = record { least = paid.0; most_paid = paid.1 };
    }
answers_unturned slow written which told now before after m why is stands paid spent r says =
    answers_refused slow written (Ok (command.Turn which)) told now before after m _ (turn_refuses slow which why is)
    stands paid r says

-- ---- the line as it was read

module _ (slow : SlowSite) (written : List Event) (r : Result Told AllocError) (m : MemberValue) (told now : List ℕ)
    (before after : ℕ) where
  pub answers_read : (line given : ReadLine) → line ≡ given → Answers slow written given r m told now before after
      → Answers slow written line r m told now before after
  answers_read line given is h = subst (λ z. Answers slow written z r m told now before after) (sym is) h

  pub answers_command : (line : ReadLine) (given wanted : Command) → line ≡ Ok given → given ≡ wanted
      → Answers slow written (Ok wanted) r m told now before after
      → Answers slow written line r m told now before after
  answers_command line given wanted is this h = answers_read line (Ok wanted) (is ∙ ap (λ (c : Command). Ok c) this) h

-- a command that the member does nothing of
pub answers_other : (slow : SlowSite) (written : List Event) (line : ReadLine) (given wanted : Command)
    → line ≡ Ok given → given ≡ wanted
    → ComesTo slow (Ok wanted) answer.Other [] 0 → slow ≡ after_typed slow (Ok wanted)
    → (m : MemberValue) → Stands slow written m → (told : List ℕ) (steps : ℕ)
    → Answers slow written line (Ok answer.Other) m told told steps steps
answers_other slow written line given wanted is this comes same m stands told steps =
    answers_command slow written (Ok answer.Other) m told told steps steps line given wanted is this
    (answers_asked slow written (Ok wanted) told told steps steps comes same m stands refl (sym (append-nil told)))

-- ---- a command that only asks

pub status_comes : (slow : SlowSite) (at : SiteStatus) → at ≡ status slow
    → ComesTo slow (Ok command.Status) answer.Done (reply.Status at ∷ []) 0
status_comes slow at is =
    record { told_is = refl; replies_are = ap (λ (s : SiteStatus). reply.Status s ∷ []) is; counts = refl }

pub who_comes : (slow : SlowSite) → ComesTo slow (Ok command.Who) answer.Done (who_replies slow) 0
who_comes slow = record { told_is = refl; replies_are = refl; counts = refl }

pub answers_short : (slow : SlowSite) (written : List Event) (line : ReadLine) (r : Result Told AllocError) → IsErr r
    → (m : MemberValue) → Stands slow written m
    → (told now : List ℕ) (steps : ℕ) → Answers slow written line r m told now steps steps
answers_short slow written line (Ok t) is m stands told now steps = let e = is in cc
answers_short slow written line (Err short) is m stands told now steps =
    cut_asked slow written line told now steps steps stands refl

pub polls_nothing : (slow : SlowSite) → slow ≡ after_typed slow (Ok command.Poll)
unfolding received
polls_nothing slow = refl
