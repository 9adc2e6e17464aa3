-- What is said of events by what came of each, one after another.
use Rattle.std.proofs.Common.{◌≡◌, ℕ, ◌+◌, ◌<◌, ◌≤◌, nat_le, arith, ◌⊎◌, inl, inr, Bool, true, false, List, [], ◌∷◌}
use Rattle.std.proofs.Common.{◌++◌, length, min, drop, drop_of_length-le, get_or, refl, sym, ◌∙◌, ap, ap₂, append_assoc}
use Rattle.std.proofs.Common.{append-nil}
use Rattle.std.proofs.lemmas.Bool.{leb-false, leb-true}
use Rattle.gd_answers.specs.Arriving.{arrived_reply, replies_of, reply_list}
use Rattle.gd_answers.specs.declared.arrived.Arrived.{Arrived}
use Rattle.gd_events.specs.Events.{Event}
use Rattle.gd_lines.specs.declared.reply.Reply.{Reply}
use Rattle.gd_world.proofs.InTurn.{at_item}

-- where nothing came, nothing is said
none_came : (es : List Event) → replies_of es [] ≡ []
unfolding replies_of
none_came [] = refl
none_came (e ∷ es) = refl

-- the shorter of two lists is at its end
over_one : (a b n : ℕ) → n ≡ min a b → (a ≤ n) ⊎ (b ≤ n)
over_one a b n is = by (nat_le a n) refl
  where
    by : (test : Bool) → nat_le a n ≡ test → (a ≤ n) ⊎ (b ≤ n)
    by true over = inl (leb-true a n over)
    by false under = inr (omega (arith, is, leb-false a n under))

module _ (es : List Event) (came : List Arrived) where
  -- so many have been gone through, and that is what is said of them
  abbrev pub AreSaid : ℕ → List Reply → Type 0
  AreSaid n replies = replies ++ replies_of (drop n es) (drop n came) ≡ replies_of es came

  pub said_none : (replies : List Reply) → replies ≡ [] → AreSaid 0 replies
  said_none replies none = ap (λ (rs : List Reply). rs ++ replies_of es came) none

  module _ (n : ℕ) (replies : List Reply) (now : AreSaid n replies) where
    pub said_more : (e : Event) (a : Arrived) → n < length es → n < length came → e ≡ get_or es n e
        → a ≡ get_or came n a
        → (next : List Reply) → next ≡ replies ++ reply_list (arrived_reply e a) → AreSaid (n + 1) next
    unfolding replies_of
    said_more e a below as_below is as_is next more =
        let rest = replies_of (drop (n + 1) es) (drop (n + 1) came) in
        ap (λ (rs : List Reply). rs ++ rest) more ∙ append_assoc replies (reply_list (arrived_reply e a)) rest
        ∙ ap (λ (rs : List Reply). replies ++ rs)
        (sym (ap₂ replies_of (at_item es n e below is) (at_item came n a as_below as_is))) ∙ now

    pub said_all : n ≡ min (length es) (length came) → replies ≡ replies_of es came
    unfolding replies_of
    said_all over = sym (append-nil replies)
        ∙ ap (λ (rs : List Reply). replies ++ rs) (sym (none (over_one (length es) (length came) n over))) ∙ now
      where
        none : (length es ≤ n) ⊎ (length came ≤ n) → replies_of (drop n es) (drop n came) ≡ []
        none (inl all) = ap (λ (l : List Event). replies_of l (drop n came)) (drop_of_length-le es all)
        none (inr all) = ap (replies_of (drop n es)) (drop_of_length-le came all) ∙ none_came (drop n es)
