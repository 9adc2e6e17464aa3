-- What comes of the lines of a script, by what the calls of a world answer.
use Rattle.std.proofs.Common.{◌≡◌, ℕ, zero, suc, ◌+◌, ◌⊎◌, inl, inr, false, cond, List, [], ◌∷◌, ◌++◌, length, refl}
use Rattle.std.proofs.Common.{sym, ◌∙◌, ap, subst, arith}
use Rattle.std.specs.List.{filter}
use Rattle.std.specs.Prelude.{None, Result, Ok, Err, IfOk, OnErr, IsErrAnd}
use Rattle.gd_base.specs.Sites.{is_site}
use Rattle.gd_base.specs.declared.refusal.Refusal.TheVariants as refusal
use Rattle.gd_effects.specs.Effects.{cost}
use Rattle.gd_lines.specs.declared.command.Command.{Command}
use Rattle.gd_lines.specs.declared.command.ScriptLine.{ScriptLine}
use Rattle.gd_lines.specs.declared.command.ScriptLine.TheVariants as script
use Rattle.gd_lines.specs.declared.reply.Reply.{Reply}
use Rattle.gd_lines.specs.declared.reply.Reply.TheVariants as reply
use Rattle.gd_reference.specs.NodeRun.{command_replies, of_command}
use Rattle.gd_reference.specs.World.{World, after_line, delivered, happens, sent, with_site}
use Rattle.gd_world.proofs.Paying.{pays_all, pays_none}
use Rattle.gd_world.specs.Answers.{DeliverIs, LineIs, SendIs}
use Rattle.gd_world.specs.Calls.{Answers, Comes, Goes, refusal_replies}
use Rattle.gd_world.specs.Standing.{StandsFor, WorldValue}
use Rattle.gd_world.specs.declared.fault.WorldFault.{WorldFault}
use Rattle.gd_world.specs.declared.fault.WorldFault.TheVariants.{NoSite, NoMail, NoMemory}
use Rattle.gd_worlds.specs.Rehearsal.{after_script, delivery_replies, is_work, mail_of, may_send, of_delivery}
use Rattle.gd_worlds.specs.Rehearsal.{script_replies, script_work, told_by}

-- that a line comes to this, where the call that it asks for comes to a value of any type
abbrev ComesBy : {T : Type 0} → World → ScriptLine → Result T WorldFault → WorldValue → ℕ → WorldValue → ℕ → Type 0
ComesBy w line r old before new after
    = Comes (after_script w (Ok line)) (script_work w (Ok line)) r old before new after

-- one that is refused changes nothing
abbrev Stays : World → ScriptLine → WorldFault → Type 0
Stays w line fault = (script_replies w (Ok line) ≡ refusal_replies fault) × (script_work w (Ok line) ≡ [])
    × (after_script w (Ok line) ≡ w)

-- a line that is that one
pub goes_read : (w : World) (r : Result (List Reply) WorldFault) (old new : WorldValue) (before after : ℕ)
    (given line : ScriptLine) → given ≡ line → Goes w line r old before new after → Goes w given r old before new after
goes_read w r old new before after given line is goes = subst (λ l. Goes w l r old before new after) (sym is) goes

-- ---- a line for a site

no_site : (w : World) (site : ℕ) (asked : Command) → is_site w.sites site ≡ false
    → Stays w (script.At site asked) NoSite
unfolding happens
no_site w site asked none = (
  ap (λ b. cond b (command_replies (w.at site) asked) (reply.Refused refusal.NoSite ∷ [])) none,
  ap (λ b. filter is_work (cond b (of_command (w.at site) [] (Ok asked)) [])) none,
  ap (λ b. cond b (with_site w site (after_line (w.at site) (told_by asked))) w) none,
)

module _ (w : World) (old new : WorldValue) (before after : ℕ) where
  pub goes_at : (site : ℕ) (asked : Command) (r : Result (List Reply) WorldFault) → LineIs w site asked r
      → ComesBy w (script.At site asked) r old before new after
      → Goes w (script.At site asked) r old before new after
  goes_at site asked (Ok rs) is h
      = (
        is.1 ∙ sym (ap (λ b. cond b (command_replies (w.at site) asked) (reply.Refused refusal.NoSite ∷ [])) is.0),
        h.0,
        h.1,
      )
  goes_at site asked (Err NoMemory) is h = h
  goes_at site asked (Err NoSite) is h = let k = no_site w site asked is in (k.0, k.1, k.2, h.0, h.1)
  goes_at site asked (Err NoMail) is h = absurd is

-- ---- a send

no_receiver : (w : World) (from to : ℕ) → may_send w from to ≡ false → Stays w (script.Send from to) NoSite
unfolding happens
no_receiver w from to none = (
  ap (λ b. cond b (reply.Mail (length w.mail + 1)) (reply.Refused refusal.NoSite) ∷ []) none,
  refl,
  ap (λ b. cond b (sent w from to) w) none,
)

module _ (w : World) (old new : WorldValue) (before after : ℕ) where
  -- the world has sent it, and memory may run out for the reply alone
  pub goes_sent : (from to number : ℕ) (r : Result (List Reply) WorldFault) → SendIs w from to (Ok number)
      → ComesBy {T = ℕ} w (script.Send from to) (Ok number) old before new after
      → IfOk r (λ rs. rs ≡ reply.Mail number ∷ []) → OnErr r (r ≡ Err NoMemory)
      → Goes w (script.Send from to) r old before new after
  goes_sent from to number (Ok rs) is h says none = (
    says ∙ ap (λ n. reply.Mail n ∷ []) is.1
        ∙ sym (ap (λ b. cond b (reply.Mail (length w.mail + 1)) (reply.Refused refusal.NoSite) ∷ []) is.0),
    h.0,
    h.1,
  )
  goes_sent from to number (Err NoMemory) is h says none = pays_all (script_work w (Ok (script.Send from to))) h.1
  goes_sent from to number (Err NoSite) is h says none = let e = none in cc
  goes_sent from to number (Err NoMail) is h says none = let e = none in cc

  -- it hasn't
  pub goes_unsent : (from to : ℕ) (fault : WorldFault) (r : Result (List Reply) WorldFault)
      → IsErrAnd r (λ e. e ≡ fault) → SendIs w from to (Err fault)
      → ComesBy {T = ℕ} w (script.Send from to) (Err fault) old before new after
      → Goes w (script.Send from to) r old before new after
  goes_unsent from to fault (Ok rs) end is h = absurd end
  goes_unsent from to fault (Err e) end is h
      = subst (λ f. Goes w (script.Send from to) (Err f) old before new after) (sym end) (go fault is h)
    where
      go : (f : WorldFault) → SendIs w from to (Err f)
          → ComesBy {T = ℕ} w (script.Send from to) (Err f) old before new after
          → Goes w (script.Send from to) (Err f) old before new after
      go NoMemory is h = h
      go NoSite is h = let k = no_receiver w from to is in (k.0, k.1, k.2, h.0, h.1)
      go NoMail is h = absurd is

-- ---- a delivery

no_mail : (w : World) (number : ℕ) → mail_of w number ≡ None → Stays w (script.Deliver number) NoMail
unfolding happens
no_mail w zero none = (refl, refl, refl)
no_mail w (suc mail) none
    = (ap (delivery_replies w (suc mail)) none, ap (λ m. filter is_work (of_delivery w m)) none, ap (delivered w) none)

module _ (w : World) (old new : WorldValue) (before after : ℕ) where
  -- the mail is handed on, and memory may run out for the last reply alone
  pub goes_delivered : (number : ℕ) (said all : List Reply) → DeliverIs w number (Ok said)
      → ComesBy {T = List Reply} w (script.Deliver number) (Ok said) old before new after
      → all ≡ said ++ reply.Delivered number ∷ [] → Goes w (script.Deliver number) (Ok all) old before new after
  goes_delivered number said all is h says =
      (says ∙ ap (λ rs. rs ++ reply.Delivered number ∷ []) is.2 ∙ sym (ap (delivery_replies w number) is.1), h.0, h.1)

  pub goes_unsaid : (number : ℕ) (said : List Reply) (r : Result (List Reply) WorldFault)
      → IsErrAnd r (λ e. e ≡ NoMemory)
      → ComesBy {T = List Reply} w (script.Deliver number) (Ok said) old before new after
      → Goes w (script.Deliver number) r old before new after
  goes_unsaid number said (Ok rs) end h = absurd end
  goes_unsaid number said (Err e) end h =
      subst (λ f. Goes w (script.Deliver number) (Err f) old before new after) (sym end)
      (pays_all (script_work w (Ok (script.Deliver number))) h.1)

  -- it isn't
  pub goes_undelivered : (number : ℕ) (fault : WorldFault) (r : Result (List Reply) WorldFault)
      → IsErrAnd r (λ e. e ≡ fault) → DeliverIs w number (Err fault)
      → ComesBy {T = List Reply} w (script.Deliver number) (Err fault) old before new after
      → Goes w (script.Deliver number) r old before new after
  goes_undelivered number fault (Ok rs) end is h = absurd end
  goes_undelivered number fault (Err e) end is h
      = subst (λ f. Goes w (script.Deliver number) (Err f) old before new after) (sym end) (go fault is h)
    where
      go : (f : WorldFault) → DeliverIs w number (Err f)
          → ComesBy {T = List Reply} w (script.Deliver number) (Err f) old before new after
          → Goes w (script.Deliver number) (Err f) old before new after
      go NoMemory is h = h
      go NoSite is h = absurd is
      go NoMail is h = let k = no_mail w number is in (k.0, k.1, k.2, h.0, h.1)

-- ---- a line of which nothing is said

module _ (w : World) (now : WorldValue) (steps : ℕ) (stands : StandsFor w now) where
  pub goes_nothing : (given : ScriptLine) → (given ≡ script.Blank) ⊎ (given ≡ script.Quit) → (replies : List Reply)
      → replies ≡ [] → Goes w given (Ok replies) now steps now steps
  goes_nothing given this replies none = go this
    where
      go : (given ≡ script.Blank) ⊎ (given ≡ script.Quit) → Goes w given (Ok replies) now steps now steps
      go (inl is) = goes_read w (Ok replies) now now steps steps given script.Blank is (none, stands, omega arith)
      go (inr is) = goes_read w (Ok replies) now now steps steps given script.Quit is (none, stands, omega arith)

-- ---- a line that is refused

module _ (w : World) (line : ScriptLine) {old new : WorldValue} {before after : ℕ} (fault : WorldFault)
    (stays : Stays w line fault × (new ≡ old) × (after ≡ before)) (stands : StandsFor w old) where
  -- that is said, and memory may run out for it alone
  pub answers_refused : (r : Result (List Reply) WorldFault) → IfOk r (λ rs. rs ≡ refusal_replies fault)
      → OnErr r (r ≡ Err NoMemory) → Answers w line r before new after
  answers_refused (Ok rs) says none = (
    says ∙ sym stays.0.0,
    subst (λ v. StandsFor v new) (sym stays.0.2) (subst (StandsFor w) (sym stays.1) stands),
    omega (arith, stays.2, ap cost stays.0.1),
  )
  answers_refused (Err NoMemory) says none = pays_none (script_work w (Ok line)) stays.2
  answers_refused (Err NoSite) says none = let e = none in cc
  answers_refused (Err NoMail) says none = let e = none in cc

-- by what came of the line itself
module _ (w : World) (line : ScriptLine) (old new : WorldValue) (before after : ℕ)
    (came : Result (List Reply) WorldFault) (goes : Goes w line came old before new after) where
  pub answers_no_memory : came ≡ Err NoMemory → Answers w line (Err NoMemory) before new after
  answers_no_memory is = subst (λ r. Goes w line r old before new after) is goes

  module _ (stands : StandsFor w old) (r : Result (List Reply) WorldFault) (none : OnErr r (r ≡ Err NoMemory)) where
    pub answers_no_site : came ≡ Err NoSite → IfOk r (λ rs. rs ≡ reply.Refused refusal.NoSite ∷ [])
        → Answers w line r before new after
    answers_no_site is says = let k = subst (λ r. Goes w line r old before new after) is goes
        in answers_refused w line NoSite ((k.0, k.1, k.2), k.3, k.4) stands r says none

    pub answers_no_mail : came ≡ Err NoMail → IfOk r (λ rs. rs ≡ reply.Refused refusal.NoMail ∷ [])
        → Answers w line r before new after
    answers_no_mail is says = let k = subst (λ r. Goes w line r old before new after) is goes
        in answers_refused w line NoMail ((k.0, k.1, k.2), k.3, k.4) stands r says none
