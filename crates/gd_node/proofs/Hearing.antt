-- What is put into the records, and what is said, of events that stand one after another.
use Rattle.std.proofs.Common.{◌≡◌, ℕ, ◌+◌, ◌<◌, ◌≤◌, nat_le, Bool, true, false, cond, List, [], ◌∷◌, ◌++◌, drop, get_or}
use Rattle.std.proofs.Common.{length, map, min, take, refl, sym, ◌∙◌, ap, ap₂, append-nil, append_assoc, arith, subst}
use Rattle.std.proofs.lemmas.Bool.{leb-false, leb-true}
use Rattle.std.proofs.lemmas.Grind.{flat_map-append}
use Rattle.std.proofs.lemmas.List.{at_drop_all, at_drop_more, map-append, take_all, take_more}
use Rattle.std.specs.List.{flat_map}
use Rattle.std.specs.Prelude.{OnOk, Result}
use Rattle.std.specs.declared.alloc.AllocError.{AllocError}
use Rattle.gd_answers.specs.Arriving.{arrived_reply, is_taken, replies_of, reply_list, taken_of}
use Rattle.gd_answers.specs.declared.arrived.Arrived.{Arrived}
use Rattle.gd_events.specs.Events.{Event}
use Rattle.gd_grammar.specs.Drawings.{drawings}
use Rattle.gd_lines.specs.Replies.{reply_text}
use Rattle.gd_lines.specs.declared.reply.Reply.TheVariants as reply
use Rattle.gd_logs.specs.Written.{AreRecords, Records}
use Rattle.gd_reference.specs.SiteEffects.{done_replies}

-- what is said by now, and what is still to be said behind it, is all
behind_more : {X : Type 0} (text : List X → List ℕ) → ((xs ys : List X) → text (xs ++ ys) ≡ text xs ++ text ys)
    → (now next all : List ℕ) (xs ys : List X) → now ++ text (xs ++ ys) ≡ all → next ≡ now ++ text xs
    → next ++ text ys ≡ all
behind_more text split now next all xs ys are is =
    ap (λ l. l ++ text ys) is ∙ append_assoc now (text xs) (text ys) ∙ ap (λ l. now ++ l) (sym (split xs ys)) ∙ are

taken_of_none : (es : List Event) → taken_of es [] ≡ []
unfolding taken_of
taken_of_none [] = refl
taken_of_none (e ∷ es) = refl

replies_of_none : (es : List Event) → replies_of es [] ≡ []
unfolding replies_of
replies_of_none [] = refl
replies_of_none (e ∷ es) = refl

-- the event, where it was taken
abbrev pub if_taken : Bool → Event → List Event
if_taken taken e = cond taken (e ∷ []) []

-- these events are put behind those that the records had
abbrev pub Puts : List Event → Records → Records → Type 0
Puts es was records =
    (seen before : List Event) → AreRecords drawings seen before was → AreRecords drawings seen (before ++ es) records

puts_none : (records : Records) → Puts [] records records
puts_none records seen before are =
    subst (λ es. AreRecords drawings seen es records) (sym (append-nil before)) are

puts_then : (es more : List Event) (was records next : Records) → Puts es was records → Puts more records next
    → Puts (es ++ more) was next
puts_then es more was records next put then seen before are =
    subst (λ fs. AreRecords drawings seen fs next) (append_assoc before es more)
    (then seen (before ++ es) (put seen before are))

module _ (es : List Event) (came : List Arrived) where
  -- of the first so many
  pub record HeardSoFar (k : ℕ) (records was : Records) (said spoken : List ℕ) : Type 0 where
    pub taken : List Event
    pub taken_are : taken ++ taken_of (drop k es) (drop k came) ≡ taken_of es came
    pub records_are : Puts taken was records
    pub said_are : said ++ flat_map reply_text (replies_of (drop k es) (drop k came))
        ≡ spoken ++ flat_map reply_text (replies_of es came)

  pub heard_none : (records : Records) (said : List ℕ) → HeardSoFar 0 records records said said
  heard_none records said = record { taken = []; taken_are = refl; records_are = puts_none records; said_are = refl }

  at_both : {Y : Type 0} (F : List Event → List Arrived → Y) (k : ℕ) (e : Event) (a : Arrived) → k < length es
      → k < length came → e ≡ get_or es k e → a ≡ get_or came k a
      → F (drop k es) (drop k came) ≡ F (e ∷ drop (k + 1) es) (a ∷ drop (k + 1) came)
  at_both F k e a lt lt' is is' =
      at_drop_more (λ l. F l (drop k came)) es k e lt ∙ at_drop_more (F (get_or es k e ∷ drop (k + 1) es)) came k a lt'
      ∙ ap₂ (λ x y. F (x ∷ drop (k + 1) es) (y ∷ drop (k + 1) came)) (sym is) (sym is')

  module _ {k : ℕ} {records was : Records} {said spoken : List ℕ} (h : HeardSoFar k records was said spoken) where
    pub heard_more : (e : Event) (a : Arrived) {records' : Records} {said' : List ℕ} → k < length es → k < length came
        → e ≡ get_or es k e → a ≡ get_or came k a → Puts (if_taken (is_taken a) e) records records'
        → said' ≡ said ++ flat_map reply_text (reply_list (arrived_reply e a))
        → HeardSoFar (k + 1) records' was said' spoken
    unfolding taken_of replies_of
    heard_more e a {records'} {said'} lt lt' is is' put spoke = record {
      taken = h.taken ++ if_taken (is_taken a) e;
      taken_are =
          append_assoc h.taken (if_taken (is_taken a) e) (taken_of (drop (k + 1) es) (drop (k + 1) came))
          ∙ ap (λ l. h.taken ++ l) (sym (at_both taken_of k e a lt lt' is is')) ∙ h.taken_are;
      records_are = puts_then h.taken (if_taken (is_taken a) e) was records records' h.records_are put;
      said_are =
          behind_more (flat_map reply_text) (flat_map-append reply_text) said said' _ (reply_list (arrived_reply e a))
          (replies_of (drop (k + 1) es) (drop (k + 1) came))
          (ap (λ l. said ++ flat_map reply_text l) (sym (at_both replies_of k e a lt lt' is is')) ∙ h.said_are) spoke;
    }

    -- all of them
    pub heard_all : k ≡ min (length es) (length came)
        → Puts (taken_of es came) was records × (said ≡ spoken ++ flat_map reply_text (replies_of es came))
    unfolding taken_of replies_of
    heard_all all =
        let none = none_left (nat_le (length es) k) refl in
        let taken : h.taken ≡ taken_of es came =
        sym (append-nil h.taken) ∙ ap (λ l. h.taken ++ l) (sym none.0) ∙ h.taken_are in (
          subst (λ l. Puts l was records) taken h.records_are,
          sym (append-nil said) ∙ ap (λ l. said ++ flat_map reply_text l) (sym none.1) ∙ h.said_are,
        )
      where
        none_left : (b : Bool) → nat_le (length es) k ≡ b
            → (taken_of (drop k es) (drop k came) ≡ []) × (replies_of (drop k es) (drop k came) ≡ [])
        none_left true over =
            let le = leb-true (length es) k over in
            (at_drop_all (λ l. taken_of l (drop k came)) es k le, at_drop_all (λ l. replies_of l (drop k came)) es k le)
        none_left false below =
            let le : length came ≤ k = omega (arith, all, leb-false (length es) k below) in (
              at_drop_all (taken_of (drop k es)) came k le
                  ∙ taken_of_none (drop k es),
              at_drop_all (replies_of (drop k es)) came k le
                  ∙ replies_of_none (drop k es),
            )

-- ---- one record, or none

pub none_put : (taken : Bool) (e : Event) (records : Records) → taken ≡ false → Puts (if_taken taken e) records records
none_put false e records none = puts_none records
none_put true e records none = cc

pub one_put : (taken : Bool) (e : Event) (r : Result (Unit {0}) AllocError) (records records' : Records) → taken ≡ true
    → OnOk r (Puts (e ∷ []) records records') → OnOk r (Puts (if_taken taken e) records records')
one_put true e r records records' some h = h
one_put false e r records records' some h = cc

-- ---- all events of a list

pub records_more : (es : List Event) (k : ℕ) (e d : Event) (seen : List Event) (records records' : Records)
    → k < length es
    → e ≡ get_or es k d → AreRecords drawings seen (take k es) records
    → (AreRecords drawings seen (take k es) records → AreRecords drawings seen (take k es ++ e ∷ []) records')
    → AreRecords drawings seen (take (k + 1) es) records'
records_more es k e d seen records records' lt is now put =
    subst (λ l. AreRecords drawings seen l records') (ap (λ x. take k es ++ x ∷ []) is ∙ sym (take_more es k d lt))
    (put now)

-- what is said of them
abbrev pub done_text : List Event → List ℕ
done_text es = flat_map reply_text (map (λ e. reply.Done e.stamp) es)

done_one : (es : List Event) (e : Event) → done_text (es ++ e ∷ []) ≡ done_text es ++ reply_text (reply.Done e.stamp)
done_one es e =
    ap (flat_map reply_text) (map-append (λ (x : Event). reply.Done x.stamp) es (e ∷ []))
    ∙ flat_map-append reply_text (map (λ (x : Event). reply.Done x.stamp) es) (reply.Done e.stamp ∷ [])
    ∙ ap (λ l. done_text es ++ l) (append-nil (reply_text (reply.Done e.stamp)))

pub done_more : (es : List Event) (k : ℕ) (e d : Event) (said said' : List ℕ) → k < length es → e ≡ get_or es k d
    → said ≡ done_text (take k es) → said' ≡ said ++ reply_text (reply.Done e.stamp)
    → said' ≡ done_text (take (k + 1) es)
done_more es k e d said said' lt is now put =
    put ∙ ap (λ l. l ++ reply_text (reply.Done e.stamp)) now ∙ sym (done_one (take k es) e)
    ∙ ap (λ x. done_text (take k es ++ x ∷ [])) is ∙ ap done_text (sym (take_more es k d lt))

pub done_all : (es : List Event) (k : ℕ) (said said' : List ℕ) → length es ≤ k → said ≡ done_text (take k es)
    → said' ≡ said ++ reply_text (reply.End (length es)) → said' ≡ flat_map reply_text (done_replies es)
done_all es k said said' over now put =
    put ∙ ap (λ l. l ++ reply_text (reply.End (length es))) (now ∙ ap done_text (take_all k es over))
    ∙ ap (λ l. done_text es ++ l) (sym (append-nil (reply_text (reply.End (length es)))))
    ∙ sym (flat_map-append reply_text (map (λ (x : Event). reply.Done x.stamp) es) (reply.End (length es) ∷ []))
