-- The notes of the sites and what this one has parted from, one after another.
use Rattle.std.proofs.Common.{◌≡◌, ℕ, suc, ◌+◌, ◌-◌, ◌<◌, ◌≤◌, ◌==◌, arith, cond, List, [], ◌∷◌, ◌++◌, length, sym, ◌∙◌}
use Rattle.std.proofs.Common.{ap, append_assoc, append-nil}
use Rattle.std.proofs.lemmas.Bool.{ne_eqb}
use Rattle.std.specs.Prelude.{Option}
use Rattle.gd_base.specs.declared.note.Note.{Note}
use Rattle.gd_lines.specs.declared.reply.Reply.{Reply}
use Rattle.gd_lines.specs.declared.reply.Reply.TheVariants as reply
use Rattle.gd_reference.specs.NodeRun.{note_said, parted_reply, parting_said, who_at, who_behind, who_replies}
use Rattle.gd_reference.specs.SlowSite.{SlowSite}

-- ---- one site

-- its note, and then what this one has parted from it
pub both_put : (slow : SlowSite) (site : ℕ) (replies noted all : List Reply) → noted ≡ replies ++ note_said slow site
    → all ≡ noted ++ parting_said slow site → all ≡ replies ++ who_at slow site
both_put slow site replies noted all first second =
    second ∙ ap (λ rs. rs ++ parting_said slow site) first
    ∙ append_assoc replies (note_said slow site) (parting_said slow site)

-- what this one has parted from it
pub parting_put : (slow : SlowSite) (site : ℕ) (replies : List Reply) (parted : Option ℕ) → parted ≡ slow.parted site
    → replies ++ parted_reply site parted ≡ replies ++ parting_said slow site
parting_put slow site replies parted is = ap (λ (o : Option ℕ). replies ++ parted_reply site o) is

module _ (slow : SlowSite) (site : ℕ) (note : Note) (is : note ≡ slow.notes site) where
  -- one that has made a note
  pub who_some : (note.number ≡ 0 → ⊥) → note_said slow site ≡ reply.Who site note ∷ []
  who_some some = ap (λ n. cond (n.number == 0) [] (reply.Who site n ∷ [])) (sym is)
      ∙ ap (λ b. cond b [] (reply.Who site note ∷ [])) (ne_eqb note.number 0 some)

-- ---- the sites behind one

module _ (slow : SlowSite) where
  one_more : (before : ℕ) → before < slow.sites
      → who_behind slow before (slow.sites - before)
      ≡ who_at slow (before + 1) ++ who_behind slow (before + 1) (slow.sites - (before + 1))
  unfolding who_behind
  one_more before below = let next : slow.sites - before
      ≡ suc (slow.sites - (before + 1)) = omega (arith, below) in ap (who_behind slow before) next

  none_more : (before : ℕ) → slow.sites ≤ before → who_behind slow before (slow.sites - before) ≡ []
  unfolding who_behind
  none_more before over = let end : slow.sites - before ≡ 0 = omega (arith, over) in ap (who_behind slow before) end

  -- these are the replies of the sites up to one
  abbrev pub AreUpTo : ℕ → List Reply → Type 0
  AreUpTo before replies = replies ++ who_behind slow before (slow.sites - before) ≡ who_behind slow 0 slow.sites

  pub up_to_none : AreUpTo 0 []
  up_to_none = let all : slow.sites - 0 ≡ slow.sites = omega arith in ap (who_behind slow 0) all

  module _ (before : ℕ) (replies : List Reply) (now : AreUpTo before replies) where
    pub up_to_next : (next : List Reply) → before < slow.sites → next ≡ replies ++ who_at slow (before + 1)
        → AreUpTo (before + 1) next
    up_to_next next below is =
        let rest = who_behind slow (before + 1) (slow.sites - (before + 1)) in
        ap (λ rs. rs ++ rest) is ∙ append_assoc replies (who_at slow (before + 1)) rest
        ∙ ap (λ rs. replies ++ rs) (sym (one_more before below)) ∙ now

    -- they are all, and then comes how many they are
    pub up_to_all : (all : List Reply) (count : ℕ) → slow.sites ≤ before → count ≡ length replies
        → all ≡ replies ++ reply.End count ∷ [] → all ≡ who_replies slow
    up_to_all all count over counts is =
        let there : replies ≡ who_behind slow 0 slow.sites = sym (append-nil replies)
        ∙ ap (λ rs. replies ++ rs) (sym (none_more before over)) ∙ now in
        is ∙ ap (λ n. replies ++ reply.End n ∷ []) counts ∙ ap (λ rs. rs ++ reply.End (length rs) ∷ []) there
