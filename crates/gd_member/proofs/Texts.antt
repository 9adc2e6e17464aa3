-- The text of replies that are said one after another.
use Rattle.std.proofs.Common.{◌≡◌, ℕ, suc, ◌+◌, ◌-◌, ◌<◌, ◌≤◌, ◌==◌, cond, List, [], ◌∷◌, ◌++◌, get_or, length, map}
use Rattle.std.proofs.Common.{take, refl, sym, ◌∙◌, ap, append-nil, append_assoc, length-append, arith}
use Rattle.std.proofs.lemmas.Bool.{ne_eqb}
use Rattle.std.proofs.lemmas.Grind.{flat_map-append}
use Rattle.std.proofs.lemmas.List.{map-append, take_all, take_more}
use Rattle.std.specs.List.{flat_map}
use Rattle.std.specs.Prelude.{OnOk, Result, Ok, Err}
use Rattle.gd_base.specs.declared.note.Note.{Note}
use Rattle.gd_events.specs.Events.{Event}
use Rattle.gd_lines.specs.Replies.{reply_text}
use Rattle.gd_lines.specs.declared.reply.Reply.{Reply}
use Rattle.gd_lines.specs.declared.reply.Reply.TheVariants as reply
use Rattle.gd_reference.specs.NodeRun.{note_said, who_at, who_behind, who_replies}
use Rattle.gd_reference.specs.SiteEffects.{done_replies}
use Rattle.gd_reference.specs.SlowSite.{SlowSite}

abbrev pub text : List Reply → List ℕ
text replies = flat_map reply_text replies

text_one : (said : Reply) → reply_text said ≡ text (said ∷ [])
text_one said = sym (append-nil (reply_text said))

-- some replies more
pub text_more : (told now next : List ℕ) (replies more : List Reply) → now ≡ told ++ text replies
    → next ≡ now ++ text more → next ≡ told ++ text (replies ++ more)
text_more told now next replies more first then =
    then ∙ ap (λ (l : List ℕ). l ++ text more) first ∙ append_assoc told (text replies) (text more)
    ∙ ap (λ (l : List ℕ). told ++ l) (sym (flat_map-append reply_text replies more))

-- one more
pub text_push : (told now next : List ℕ) (replies : List Reply) (said : Reply) → now ≡ told ++ text replies
    → next ≡ now ++ reply_text said → next ≡ told ++ text (replies ++ said ∷ [])
text_push told now next replies said first then =
    text_more told now next replies (said ∷ []) first (then ∙ ap (λ (l : List ℕ). now ++ l) (text_one said))

-- ---- events that were done

abbrev done_of : Event → Reply
done_of e = reply.Done e.stamp

abbrev pub IsDone : List ℕ → List ℕ → List Event → Type 0
IsDone told now es = now ≡ told ++ text (map (λ e. reply.Done e.stamp) es)

pub done_more : (told now next : List ℕ) (es : List Event) (k : ℕ) (e d : Event) → k < length es → e ≡ get_or es k d
    → IsDone told now (take k es)
    → next ≡ now ++ reply_text (reply.Done e.stamp) → IsDone told next (take (k + 1) es)
done_more told now next es k e d lt is first then =
    text_push told now next (map done_of (take k es)) (done_of e) first then
    ∙ ap (λ (rs : List Reply). told ++ text rs)
    (sym (map-append done_of (take k es) (e ∷ [])) ∙ ap (λ (x : Event). map done_of (take k es ++ x ∷ [])) is
    ∙ ap (map done_of) (sym (take_more es k d lt)))

done_all : (told now next : List ℕ) (es : List Event) (k : ℕ) → length es ≤ k → IsDone told now (take k es)
    → next ≡ now ++ reply_text (reply.End (length es)) → next ≡ told ++ text (done_replies es)
done_all told now next es k over first then =
    text_push told now next (map done_of (take k es)) (reply.End (length es)) first then
    ∙ ap (λ (l : List Event). told ++ text (map done_of l ++ reply.End (length es) ∷ [])) (take_all k es over)

pub done_all_ok : {T E : Type 0} (r : Result T E) (told now next : List ℕ) (es : List Event) (k : ℕ) → length es ≤ k
    → IsDone told now (take k es)
    → OnOk r (next ≡ now ++ reply_text (reply.End (length es))) → OnOk r (next ≡ told ++ text (done_replies es))
done_all_ok (Ok v) told now next es k over first then = done_all told now next es k over first then
done_all_ok (Err e) told now next es k over first then = tt

-- ---- who is there

note_some : (slow : SlowSite) (site : ℕ) (note : Note) → note ≡ slow.notes site → (note.number ≡ 0 → ⊥)
    → note_said slow site ≡ reply.Who site note ∷ []
note_some slow site note is some =
    ap (λ (n : Note). cond (n.number == 0) [] (reply.Who site n ∷ [])) (sym is)
    ∙ ap (λ b. cond b [] (reply.Who site note ∷ [])) (ne_eqb note.number 0 some)

pub note_told : (slow : SlowSite) (site : ℕ) (note : Note) → note ≡ slow.notes site → (note.number ≡ 0 → ⊥)
    → (told now : List ℕ) → now ≡ told ++ reply_text (reply.Who site note)
    → now ≡ told ++ text (note_said slow site)
note_told slow site note is some told now then =
    then ∙ ap (λ (l : List ℕ). told ++ l) (text_one (reply.Who site note))
    ∙ ap (λ (rs : List Reply). told ++ text rs) (sym (note_some slow site note is some))

module _ (slow : SlowSite) where
  one_more : (before : ℕ) → before < slow.sites
      → who_behind slow before (slow.sites - before)
      ≡ who_at slow (before + 1) ++ who_behind slow (before + 1) (slow.sites - (before + 1))
  unfolding who_behind
  one_more before below =
      let next : slow.sites - before ≡ suc (slow.sites - (before + 1)) = omega (arith, below) in
      ap (who_behind slow before) next

  none_more : (before : ℕ) → slow.sites ≤ before → who_behind slow before (slow.sites - before) ≡ []
  unfolding who_behind
  none_more before over = let end : slow.sites - before ≡ 0 = omega (arith, over) in ap (who_behind slow before) end

  -- the replies of the sites up to one were said, which are so many
  pub record AreSaid (before count : ℕ) (told now : List ℕ) : Type 0 where
    pub replies : List Reply
    pub counts : count ≡ length replies
    pub said : now ≡ told ++ text replies
    pub all : replies ++ who_behind slow before (slow.sites - before) ≡ who_behind slow 0 slow.sites

  pub said_none : (told : List ℕ) → AreSaid 0 0 told told
  said_none told =
      let all : slow.sites - 0 ≡ slow.sites = omega arith in
      record { replies = []; counts = refl; said = sym (append-nil told); all = ap (who_behind slow 0) all }

  module _ {before count : ℕ} {told now : List ℕ} (so_far : AreSaid before count told now) where
    pub said_more : (next : List ℕ) (count' : ℕ) → before < slow.sites → next ≡ now ++ text (who_at slow (before + 1))
        → count' ≡ count + length (who_at slow (before + 1))
        → AreSaid (before + 1) count' told next
    said_more next count' below then counts =
        let more = who_at slow (before + 1) in
        record {
          replies = so_far.replies ++ more;
          counts = omega (arith, counts, so_far.counts, length-append so_far.replies more);
          said = text_more told now next so_far.replies more so_far.said then;
          all =
              append_assoc so_far.replies more (who_behind slow (before + 1) (slow.sites - (before + 1)))
              ∙ ap (λ (rs : List Reply). so_far.replies ++ rs) (sym (one_more before below)) ∙ so_far.all;
        }

    -- all of them, and then how many they are
    said_all : (next : List ℕ) → slow.sites ≤ before → next ≡ now ++ reply_text (reply.End count)
        → next ≡ told ++ text (who_replies slow)
    said_all next over then =
        let there : so_far.replies ≡ who_behind slow 0 slow.sites =
        sym (append-nil so_far.replies) ∙ ap (λ (rs : List Reply). so_far.replies ++ rs) (sym (none_more before over))
        ∙ so_far.all in
        text_push told now next so_far.replies (reply.End count) so_far.said then
        ∙ ap (λ (n : ℕ). told ++ text (so_far.replies ++ reply.End n ∷ [])) so_far.counts
        ∙ ap (λ (rs : List Reply). told ++ text (rs ++ reply.End (length rs) ∷ [])) there

    pub said_all_ok : {T E : Type 0} (r : Result T E) (next : List ℕ) → slow.sites ≤ before
        → OnOk r (next ≡ now ++ reply_text (reply.End count)) → OnOk r (next ≡ told ++ text (who_replies slow))
    said_all_ok (Ok v) next over then = said_all next over then
    said_all_ok (Err e) next over then = tt
