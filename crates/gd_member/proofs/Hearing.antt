-- What is put with the unwritten events, and what is said, of events that stand one after another.
use Rattle.std.proofs.Common.{◌≡◌, ℕ, ◌+◌, ◌<◌, ◌≤◌, nat_le, Bool, true, false, cond, List, [], ◌∷◌, ◌++◌, drop, get_or}
use Rattle.std.proofs.Common.{length, min, refl, sym, ◌∙◌, ap, ap₂, append-nil, append_assoc, arith, subst}
use Rattle.std.proofs.lemmas.Bool.{leb-false, leb-true}
use Rattle.std.proofs.lemmas.Grind.{flat_map-append}
use Rattle.std.proofs.lemmas.List.{at_drop_all, at_drop_more}
use Rattle.std.specs.List.{flat_map}
use Rattle.gd_answers.specs.Arriving.{arrived_reply, is_taken, replies_of, reply_list, taken_of}
use Rattle.gd_answers.specs.declared.arrived.Arrived.{Arrived}
use Rattle.gd_events.specs.Events.{Event}
use Rattle.gd_lines.specs.Replies.{reply_text}
use Rattle.gd_lines.specs.declared.reply.Reply.{Reply}
use Rattle.gd_member.proofs.Pieces.{none_more}
use Rattle.gd_member.specs.Unwritten.{AreUnwritten, UnwrittenValue}

taken_of_none : (es : List Event) → taken_of es [] ≡ []
unfolding taken_of
taken_of_none [] = refl
taken_of_none (e ∷ es) = refl

replies_of_none : (es : List Event) → replies_of es [] ≡ []
unfolding replies_of
replies_of_none [] = refl
replies_of_none (e ∷ es) = refl

-- the event, where it was taken
abbrev pub if_taken : Bool → Event → List Event
if_taken taken e = cond taken (e ∷ []) []

-- these events are put last
abbrev pub Puts : List Event → UnwrittenValue → UnwrittenValue → Type 0
Puts es was u = (written others : List Event) → AreUnwritten written others was → AreUnwritten written (others ++ es) u

puts_none : (u : UnwrittenValue) → Puts [] u u
puts_none u written others are = none_more written others u are

puts_then : (es more : List Event) (was u next : UnwrittenValue) → Puts es was u → Puts more u next
    → Puts (es ++ more) was next
puts_then es more was u next put then written others are =
    subst (λ fs. AreUnwritten written fs next) (append_assoc others es more)
    (then written (others ++ es) (put written others are))

-- what is said of the first replies, and then of the others
said_then : (now next all : List ℕ) (xs ys : List Reply) → now ++ flat_map reply_text (xs ++ ys) ≡ all
    → next ≡ now ++ flat_map reply_text xs → next ++ flat_map reply_text ys ≡ all
said_then now next all xs ys are is =
    ap (λ l. l ++ flat_map reply_text ys) is ∙ append_assoc now (flat_map reply_text xs) (flat_map reply_text ys)
    ∙ ap (λ l. now ++ l) (sym (flat_map-append reply_text xs ys)) ∙ are

module _ (es : List Event) (came : List Arrived) where
  -- of the first so many
  pub record HeardSoFar (k : ℕ) (u was : UnwrittenValue) (said spoken : List ℕ) : Type 0 where
    pub taken : List Event
    pub taken_are : taken ++ taken_of (drop k es) (drop k came) ≡ taken_of es came
    pub put : Puts taken was u
    pub said_are : said ++ flat_map reply_text (replies_of (drop k es) (drop k came))
        ≡ spoken ++ flat_map reply_text (replies_of es came)

  pub heard_none : (u : UnwrittenValue) (said : List ℕ) → HeardSoFar 0 u u said said
  heard_none u said = record { taken = []; taken_are = refl; put = puts_none u; said_are = refl }

  at_both : {Y : Type 0} (F : List Event → List Arrived → Y) (k : ℕ) (e : Event) (a : Arrived) → k < length es
      → k < length came → e ≡ get_or es k e → a ≡ get_or came k a
      → F (drop k es) (drop k came) ≡ F (e ∷ drop (k + 1) es) (a ∷ drop (k + 1) came)
  at_both F k e a lt lt' is is' =
      at_drop_more (λ l. F l (drop k came)) es k e lt ∙ at_drop_more (F (get_or es k e ∷ drop (k + 1) es)) came k a lt'
      ∙ ap₂ (λ x y. F (x ∷ drop (k + 1) es) (y ∷ drop (k + 1) came)) (sym is) (sym is')

  module _ {k : ℕ} {u was : UnwrittenValue} {said spoken : List ℕ} (h : HeardSoFar k u was said spoken) where
    pub heard_more : (e : Event) (a : Arrived) {u' : UnwrittenValue} {said' : List ℕ} → k < length es → k < length came
        → e ≡ get_or es k e → a ≡ get_or came k a → Puts (if_taken (is_taken a) e) u u'
        → said' ≡ said ++ flat_map reply_text (reply_list (arrived_reply e a)) → HeardSoFar (k + 1) u' was said' spoken
    unfolding taken_of replies_of
    heard_more e a {u'} {said'} lt lt' is is' put spoke = record {
      taken = h.taken ++ if_taken (is_taken a) e;
      taken_are =
          append_assoc h.taken (if_taken (is_taken a) e) (taken_of (drop (k + 1) es) (drop (k + 1) came))
          ∙ ap (λ l. h.taken ++ l) (sym (at_both taken_of k e a lt lt' is is')) ∙ h.taken_are;
      put = puts_then h.taken (if_taken (is_taken a) e) was u u' h.put put;
      said_are =
          said_then said said' _ (reply_list (arrived_reply e a)) (replies_of (drop (k + 1) es) (drop (k + 1) came))
          (ap (λ l. said ++ flat_map reply_text l) (sym (at_both replies_of k e a lt lt' is is')) ∙ h.said_are) spoke;
    }

    -- all of them
    pub heard_all : k ≡ min (length es) (length came)
        → Puts (taken_of es came) was u × (said ≡ spoken ++ flat_map reply_text (replies_of es came))
    unfolding taken_of replies_of
    heard_all all =
        let none = none_left (nat_le (length es) k) refl in
        let taken : h.taken ≡ taken_of es came =
        sym (append-nil h.taken) ∙ ap (λ l. h.taken ++ l) (sym none.0) ∙ h.taken_are in (
          subst (λ l. Puts l was u) taken h.put,
          sym (append-nil said) ∙ ap (λ l. said ++ flat_map reply_text l) (sym none.1) ∙ h.said_are,
        )
      where
        none_left : (b : Bool) → nat_le (length es) k ≡ b
            → (taken_of (drop k es) (drop k came) ≡ []) × (replies_of (drop k es) (drop k came) ≡ [])
        none_left true over =
            let le = leb-true (length es) k over in
            (at_drop_all (λ l. taken_of l (drop k came)) es k le, at_drop_all (λ l. replies_of l (drop k came)) es k le)
        none_left false below =
            let le : length came ≤ k = omega (arith, all, leb-false (length es) k below) in (
              at_drop_all (taken_of (drop k es)) came k le ∙ taken_of_none (drop k es),
              at_drop_all (replies_of (drop k es)) came k le ∙ replies_of_none (drop k es),
            )

-- ---- one event, or none

pub none_put : (taken : Bool) (e : Event) (u : UnwrittenValue) → taken ≡ false → Puts (if_taken taken e) u u
none_put false e u none = puts_none u
none_put true e u none = cc

pub one_put : (taken : Bool) (e : Event) (was u : UnwrittenValue) → taken ≡ true → Puts (e ∷ []) was u
    → Puts (if_taken taken e) was u
one_put true e was u some put = put
one_put false e was u some put = cc
