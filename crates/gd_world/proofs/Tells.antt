-- What a member says of each command, what that costs, and what the member stands for then.
use Rattle.std.proofs.Common.{◌≡◌, ℕ, ◌+◌, ◌⊎◌, inl, inr, List, [], ◌∷◌, length, map, refl, sym, ◌∙◌, ap, subst, arith}
use Rattle.std.proofs.lemmas.Bool.{cond_both}
use Rattle.std.specs.List.{filter}
use Rattle.std.specs.Prelude.{Option, None, Some, Result, Ok, Err, IfOk, OnErr, nat_le, option_map}
use Rattle.gd_answers.proofs.Refused.{IsErrAs, edit_as, turn_as}
use Rattle.gd_answers.proofs.Replies.{next_said}
use Rattle.gd_answers.specs.Noting.{noted_reply}
use Rattle.gd_answers.specs.Refusals.{refused_edit, refused_turn}
use Rattle.gd_base.specs.Stamps.{Stamp}
use Rattle.gd_base.specs.declared.note.Note.{Note}
use Rattle.gd_base.specs.declared.refusal.EditRefusal.{EditRefusal}
use Rattle.gd_base.specs.declared.refusal.Refusal.{Refusal}
use Rattle.gd_base.specs.declared.site_status.SiteStatus.{SiteStatus}
use Rattle.gd_effects.specs.Effects.{Work, cost}
use Rattle.gd_events.specs.Events.{Event}
use Rattle.gd_lines.specs.Edits.{Edit}
use Rattle.gd_lines.specs.Refusals.{edit_refusal}
use Rattle.gd_lines.specs.declared.command.Command.{Command}
use Rattle.gd_lines.specs.declared.command.Command.TheVariants as command
use Rattle.gd_lines.specs.declared.command.Turn.{Turn}
use Rattle.gd_lines.specs.declared.reply.Reply.{Reply}
use Rattle.gd_lines.specs.declared.reply.Reply.TheVariants as reply
use Rattle.gd_reference.specs.Backs.{with_gesture}
use Rattle.gd_reference.specs.Judging.{edit}
use Rattle.gd_reference.specs.NodeRun.{command_replies}
use Rattle.gd_reference.specs.SiteEffects.{done_replies, edit_reply, note_reply, of_own, turn_replies, turned}
use Rattle.gd_reference.specs.SlowSite.{SlowSite, status}
use Rattle.gd_reference.specs.TakeBack.{BackRefusal, after_edit, after_turn, back_refusal, backs_of, events_in, turn}
use Rattle.gd_reference.specs.TakeBack.{with_events, with_made, with_turned}
use Rattle.gd_reference.specs.World.{Focuses, Names, Prints, after_line, most_notes, noted, refocused, renamed}
use Rattle.gd_judging.specs.Faults.{EditIs}
use Rattle.gd_site.specs.Answers.{next_note}
use Rattle.gd_site.specs.Sites.{StandsFor}
use Rattle.gd_judging.specs.declared.faults.EditFault.{EditFault}
use Rattle.gd_site.specs.declared.answers.NoteEnd as site
use Rattle.gd_takeback.specs.Answers.{OnBackRefusal, PaysFor, TurnIs}
use Rattle.gd_takeback.specs.Standing.{StandsWith}
use Rattle.gd_takeback.specs.declared.take_back.BackFault.{BackFault}
use Rattle.gd_takeback.specs.declared.take_back.BackFault.TheVariants as fault
use Rattle.gd_answers.specs.Paying.{PaysFront}
use Rattle.gd_world.proofs.Paying.{cost_ones, pays_all, pays_none, pays_ones}
use Rattle.gd_world.proofs.Works.{none_polled, none_said, own_works}
use Rattle.gd_world.specs.Telling.{Tells, work_of}
use Rattle.gd_world.specs.declared.fault.WorldFault.{WorldFault}
use Rattle.gd_world.specs.declared.fault.WorldFault.TheVariants.{NoSite, NoMail, NoMemory}
use Rattle.gd_world.specs.declared.member.Member.{Member}
use Rattle.gd_worlds.specs.Rehearsal.{is_work, told_by}

-- ---- any command

-- a command that is that one
pub tells_read : (slow : SlowSite) (r : Result (List Reply) WorldFault) (before after : ℕ) (member : Member)
    (given asked : Command) → given ≡ asked → Tells slow asked r before member after
    → Tells slow given r before member after
tells_read slow r before after member given asked is tells
    = subst (λ c. Tells slow c r before member after) (sym is) tells

-- one of these
abbrev pub IsOneOf : Command → List Command → Type 0
IsOneOf given [] = ⊥
IsOneOf given (asked ∷ []) = given ≡ asked
IsOneOf given (asked ∷ more) = (given ≡ asked) ⊎ IsOneOf given more

-- one that takes no step
idle : (slow : SlowSite) (asked : Command) {before after : ℕ} → work_of slow asked ≡ [] → after ≡ before
    → after ≡ before + cost (work_of slow asked)
idle slow asked none same = omega (arith, same, ap cost none)

module _ (slow : SlowSite) (asked : Command) (before : ℕ) {after : ℕ} {member : Member} where
  -- all is said, and memory may run out for that alone
  tells_all : (r : Result (List Reply) WorldFault) → IfOk r (λ rs. rs ≡ command_replies slow asked)
      → OnErr r (r ≡ Err NoMemory)
      → StandsWith (after_line slow (told_by asked)) member.site member.backs
      → after ≡ before + cost (work_of slow asked) → Tells slow asked r before member after
  tells_all (Ok rs) is none stands paid = (is, stands, paid)
  tells_all (Err NoMemory) is none stands paid = pays_all (work_of slow asked) paid
  tells_all (Err NoSite) is none stands paid = let e = none in cc
  tells_all (Err NoMail) is none stands paid = let e = none in cc

  -- this is said
  tells_said : (r : Result (List Reply) WorldFault) (said : List Reply) → command_replies slow asked ≡ said
      → IfOk r (λ rs. rs ≡ said) → OnErr r (r ≡ Err NoMemory)
      → StandsWith (after_line slow (told_by asked)) member.site member.backs
      → after ≡ before + cost (work_of slow asked) → Tells slow asked r before member after
  tells_said r said is says = tells_all r (go r says)
    where
      go : (r : Result (List Reply) WorldFault) → IfOk r (λ rs. rs ≡ said)
          → IfOk r (λ rs. rs ≡ command_replies slow asked)
      go (Ok rs) same = same ∙ sym is
      go (Err why) same = tt

-- ---- a command that only asks

module _ (slow : SlowSite) {before after : ℕ} {member : Member} (stands : StandsWith slow member.site member.backs)
    (same : after ≡ before) where
  tells_asked : (asked : Command) → told_by asked ≡ Prints → work_of slow asked ≡ []
      → (r : Result (List Reply) WorldFault) → IfOk r (λ rs. rs ≡ command_replies slow asked)
      → OnErr r (r ≡ Err NoMemory)
      → Tells slow asked r before member after
  unfolding after_line
  tells_asked asked told none r is fails =
      tells_all slow asked before r is fails
      (subst (λ l. StandsWith (after_line slow l) member.site member.backs) (sym told) stands)
      (idle slow asked none same)

  pub tells_show : (r : Result (List Reply) WorldFault) → IfOk r (λ rs. rs ≡ command_replies slow command.Show)
      → OnErr r (r ≡ Err NoMemory) → Tells slow command.Show r before member after
  tells_show = tells_asked command.Show refl (none_said (command_replies slow command.Show))

  pub tells_who : (r : Result (List Reply) WorldFault) → IfOk r (λ rs. rs ≡ command_replies slow command.Who)
      → OnErr r (r ≡ Err NoMemory) → Tells slow command.Who r before member after
  tells_who = tells_asked command.Who refl (none_said (command_replies slow command.Who))

  pub tells_status : (at : SiteStatus) → at ≡ status slow → (r : Result (List Reply) WorldFault)
      → IfOk r (λ rs. rs ≡ reply.Status at ∷ []) → OnErr r (r ≡ Err NoMemory)
      → Tells slow command.Status r before member after
  tells_status at is r says
      = tells_asked command.Status refl refl r (subst (λ s. IfOk r (λ rs. rs ≡ reply.Status s ∷ [])) is says)

  -- commands of which nothing is said
  pub tells_nothing : (given : Command)
      → IsOneOf given (command.Blank ∷ command.Begin ∷ command.End ∷ command.Poll ∷ command.Quit ∷ [])
      → (replies : List Reply) → replies ≡ [] → Tells slow given (Ok replies) before member after
  tells_nothing given this replies none = go this
    where
      read : (asked : Command) → given ≡ asked → told_by asked ≡ Prints → work_of slow asked ≡ []
          → command_replies slow asked ≡ [] → Tells slow given (Ok replies) before member after
      read asked is told idle says
          = tells_read slow (Ok replies) before after member given asked is
          (tells_asked asked told idle (Ok replies) (none ∙ sym says) tt)

      go : IsOneOf given (command.Blank ∷ command.Begin ∷ command.End ∷ command.Poll ∷ command.Quit ∷ [])
          → Tells slow given (Ok replies) before member after
      go (inl is) = read command.Blank is refl refl refl
      go (inr (inl is)) = read command.Begin is refl refl refl
      go (inr (inr (inl is))) = read command.End is refl refl refl
      go (inr (inr (inr (inl is)))) = read command.Poll is refl (none_polled slow) refl
      go (inr (inr (inr (inr is)))) = read command.Quit is refl refl refl

-- ---- the own note

-- the reply to the next note
noted_is : (slow : SlowSite) (answer : Result ℕ site.NoteEnd) (said : Reply)
    → answer ≡ next_note (slow.notes slow.me).number → said ≡ noted_reply answer → note_reply slow ∷ [] ≡ said ∷ []
noted_is slow answer said is says = ap (λ z. z ∷ []) (sym (says ∙ ap noted_reply is ∙ next_said slow))

backs_stay : (slow : SlowSite) (note : Note) → slow.backs ≡ (noted slow note).backs
backs_stay slow note = cond_both (nat_le most_notes (slow.notes slow.me).number) _ _
    (λ (s : SlowSite). slow.backs ≡ s.backs) (λ full. refl) (λ room. refl)

-- a new note keeps what takes edits back
stands_noted : (slow : SlowSite) (note : Note) {old new : Member} → StandsWith slow old.site old.backs
    → StandsFor (noted slow note) new.site → new.backs ≡ old.backs → StandsWith (noted slow note) new.site new.backs
stands_noted slow note stands site same
    = record { site = site; backs_are = same ∙ stands.backs_are ∙ backs_stay slow note }

module _ (slow : SlowSite) {before after : ℕ} {old new : Member} (stands : StandsWith slow old.site old.backs)
    (kept : new.backs ≡ old.backs) (same : after ≡ before) (answer : Result ℕ site.NoteEnd) (said : Reply)
    (is : answer ≡ next_note (slow.notes slow.me).number) (says : said ≡ noted_reply answer)
    (r : Result (List Reply) WorldFault) (ok : IfOk r (λ rs. rs ≡ said ∷ [])) (fails : OnErr r (r ≡ Err NoMemory)) where
  pub tells_name : (name : List ℕ) → StandsFor (after_line slow (Names name)) new.site
      → Tells slow (command.Name name) r before new after
  unfolding after_line
  tells_name name site =
      tells_said slow (command.Name name) before r (said ∷ []) (noted_is slow answer said is says) ok fails
      (stands_noted slow (renamed (slow.notes slow.me) name) stands site kept)
      (idle slow (command.Name name) refl same)

  pub tells_focus : (focus : Option Stamp) → StandsFor (after_line slow (Focuses focus)) new.site
      → Tells slow (command.Focus focus) r before new after
  unfolding after_line
  tells_focus focus site =
      tells_said slow (command.Focus focus) before r (said ∷ []) (noted_is slow answer said is says) ok fails
      (stands_noted slow (refocused (slow.notes slow.me) focus) stands site kept)
      (idle slow (command.Focus focus) refl same)

-- ---- own events

-- the reference site makes these events of the command, and says this of them
abbrev pub Makes : SlowSite → Command → List Event → List Reply → Type 0
Makes slow asked es said = (command_replies slow asked ≡ said) × (work_of slow asked ≡ map (λ e. Work 1) es)

pub edit_makes : (slow : SlowSite) (wanted : Edit) (e : Event) → edit slow wanted ≡ Ok e
    → Makes slow (command.Edit wanted) (e ∷ []) (reply.Done e.stamp ∷ [])
edit_makes slow wanted e is = (
  ap (λ r. edit_reply r ∷ []) is,
  ap (λ r. filter is_work (of_own slow (events_in r) (edit_reply r ∷ []))) is
      ∙ own_works slow (e ∷ []) (reply.Done e.stamp ∷ []),
)

-- the steps of an undo, or a redo
turn_works : (slow : SlowSite) (which : Turn)
    → work_of slow (command.Turn which) ≡ map (λ e. Work 1) (turned (turn slow which))
turn_works slow which = own_works slow (turned (turn slow which)) (turn_replies (turn slow which))

pub turn_makes : (slow : SlowSite) (which : Turn) (es : List Event) → turn slow which ≡ Ok es
    → Makes slow (command.Turn which) es (done_replies es)
turn_makes slow which es is = (ap turn_replies is, turn_works slow which ∙ ap (λ r. map (λ e. Work 1) (turned r)) is)

module _ (slow : SlowSite) (asked : Command) (before : ℕ) {after : ℕ} {member : Member}
    (r : Result (List Reply) WorldFault) where
  pub tells_made : (es : List Event) (said : List Reply) → Makes slow asked es said → IfOk r (λ rs. rs ≡ said)
      → OnErr r (r ≡ Err NoMemory)
      → StandsWith (after_line slow (told_by asked)) member.site member.backs → after ≡ before + length es
      → Tells slow asked r before member after
  tells_made es said makes says none stands paid =
      tells_said slow asked before r said makes.0 says none stands (omega (arith, paid, ap cost makes.1, cost_ones es))

-- ---- a refusal

-- the reference site refuses the command so; where memory ran out nothing is said of it
abbrev pub Refuses : Option Refusal → SlowSite → Command → Type 0
Refuses None slow asked = Unit {0}
Refuses (Some why) slow asked = (command_replies slow asked ≡ reply.Refused why ∷ [])
    × (after_line slow (told_by asked) ≡ slow) × (work_of slow asked ≡ [])

pub edit_refuses : (slow : SlowSite) (wanted : Edit) (why : EditFault) → EditIs (edit slow wanted) (Err why)
    → Refuses (option_map edit_refusal (refused_edit why)) slow (command.Edit wanted)
unfolding after_edit after_line with_events backs_of
edit_refuses slow wanted why is = go (refused_edit why) (edit_as (edit slow wanted) why is)
  where
    go : (w : Option EditRefusal) → IsErrAs w (edit slow wanted)
        → Refuses (option_map edit_refusal w) slow (command.Edit wanted)
    go None k = tt
    go (Some refusal) k = (
      ap (λ r. edit_reply r ∷ []) k,
      ap (λ r. with_made slow (events_in r) with_gesture) k,
      ap (λ r. filter is_work (of_own slow (events_in r) (edit_reply r ∷ []))) k,
    )

turn_refuses : (slow : SlowSite) (which : Turn) (why : BackFault) → TurnIs (turn slow which) (Err why)
    → Refuses (option_map back_refusal (refused_turn why)) slow (command.Turn which)
unfolding after_turn after_line
turn_refuses slow which why is = go (refused_turn why) (turn_as (turn slow which) why is)
  where
    go : (w : Option BackRefusal) → IsErrAs w (turn slow which)
        → Refuses (option_map back_refusal w) slow (command.Turn which)
    go None k = tt
    go (Some refusal) k = (
      ap turn_replies k,
      ap (with_turned slow which) k,
      turn_works slow which ∙ ap (λ r. map (λ e. Work 1) (turned r)) k,
    )

-- that this is said of it, and nothing where memory ran out
abbrev pub SaysWhy : Option Refusal → Result (List Reply) WorldFault → Type 0
SaysWhy why r = IfOk r (λ rs. (reason : Refusal) × (why ≡ Some reason) × (rs ≡ reply.Refused reason ∷ []))

module _ (slow : SlowSite) (asked : Command) {before after : ℕ} {member : Member} (why : Option Refusal)
    (owes : Refuses why slow asked) where
  pub tells_refused : (r : Result (List Reply) WorldFault) → SaysWhy why r → OnErr r (r ≡ Err NoMemory)
      → StandsWith slow member.site member.backs → after ≡ before → Tells slow asked r before member after
  tells_refused (Ok rs) says none stands same =
      let k : Refuses (Some says.0) slow asked = subst (λ w. Refuses w slow asked) says.1 owes in
      (says.2 ∙ sym k.0, subst (λ s. StandsWith s member.site member.backs) (sym k.1) stands, idle slow asked k.2 same)
  tells_refused (Err NoMemory) says none stands same = pays_none (work_of slow asked) same
  tells_refused (Err NoSite) says none stands same = let e = none in cc
  tells_refused (Err NoMail) says none stands same = let e = none in cc

module _ (slow : SlowSite) (which : Turn) (before after : ℕ) (member : Member) (r : Result (List Reply) WorldFault)
    (none : OnErr r (r ≡ Err NoMemory)) where
  -- an undo, or a redo, that isn't done: where memory ran out a part of its steps may have been taken
  pub tells_unturned : (why : BackFault) → TurnIs (turn slow which) (Err why)
      → SaysWhy (option_map back_refusal (refused_turn why)) r
      → OnBackRefusal (Err why) (StandsWith slow member.site member.backs)
      → PaysFor (length (turned (turn slow which))) (Err why) before after
      → Tells slow (command.Turn which) r before member after
  tells_unturned fault.NoMemory is says stands paid = short r says none
    where
      short : (x : Result (List Reply) WorldFault) → SaysWhy None x → OnErr x (x ≡ Err NoMemory)
          → Tells slow (command.Turn which) x before member after
      short (Ok rs) said fails = let e = said.1 in cc
      short (Err NoMemory) said fails =
          subst (λ xs. PaysFront before xs after) (sym (turn_works slow which))
          (pays_ones before after (turned (turn slow which)) paid.0 paid.1)
      short (Err NoSite) said fails = let e = fails in cc
      short (Err NoMail) said fails = let e = fails in cc
  tells_unturned why is says stands paid
      = tells_refused slow (command.Turn which) _ (turn_refuses slow which why is) r says none stands paid
