-- The sentences on a run, from how it ended, whatever it owes.
use Rattle.std.proofs.Common.{◌≡◌, ℕ, List, ◌⊎◌, inl, inr, refl, subst}
use Rattle.gd_effects.specs.Done.{Did}
use Rattle.gd_effects.specs.Effects.{Effect}
use Rattle.gd_effects.specs.Endings.{EndsAs, IfUnopened, IsUncut, Leaves, Unopened}
use Rattle.gd_effects.specs.Outside.{Outside}
use Rattle.gd_outside.specs.Causes.{Rose}
use Rattle.gd_outside.specs.declared.status.Status.{Status}
use Rattle.gd_outside.specs.declared.status.Status.TheVariants.{Done, Usage, BadLog, ReadFault, WriteFault}
use Rattle.gd_outside.specs.declared.status.Status.TheVariants.{JournalFault, LinkFault, NoMemory, LineLimit}
use Rattle.gd_outside.specs.declared.status.Status.TheVariants.{OtherJournal, BadView}

module _ {told : Type 0} {xs : List Effect} {cut : List ℕ → List Effect} {whole status : Status} {a b : Outside}
    (h : EndsAs told xs cut whole status a b) where
  -- what it left, where the status is known
  pub left_at : (s : Status) → status ≡ s → told → Leaves xs cut whole s a b
  left_at s is t = subst (λ z. Leaves xs cut whole z a b) is (h.leaves t)

  pub unopened_at : status ≡ LinkFault → Unopened a b
  unopened_at is = subst (λ z. IfUnopened z a b) is h.unopened

module _ {told : Type 0} {xs : List Effect} {cut : List ℕ → List Effect} {whole : Status} {a b : Outside} where
  -- a run that nothing cut short did all, and has its status
  pub did_whole : (s : Status) → EndsAs told xs cut whole s a b → told → IsUncut s → Did a xs b × (s ≡ whole)
  did_whole Done h t u = h.leaves t
  did_whole Usage h t u = h.leaves t
  did_whole BadLog h t u = h.leaves t
  did_whole LineLimit h t u = h.leaves t
  did_whole OtherJournal h t u = h.leaves t
  did_whole BadView h t u = h.leaves t
  did_whole other h t u = absurd u

  -- a run for which memory sufficed has its status, where no call of the input, the output and the journal failed, and
  -- the link was opened
  pub completes : (s : Status) → EndsAs told xs cut whole s a b → told → ¬ Rose a.input.faults b.input.faults
      → ¬ Rose a.output.faults b.output.faults
      → ¬ Rose a.journal.faults b.journal.faults → ¬ (s ≡ LinkFault) → (s ≡ whole) ⊎ (s ≡ NoMemory)
  completes ReadFault h t i o j l = absurd (i h.cause)
  completes WriteFault h t i o j l = absurd (o h.cause)
  completes JournalFault h t i o j l = absurd (j h.cause)
  completes LinkFault h t i o j l = absurd (l refl)
  completes NoMemory h t i o j l = inr refl
  completes other h t i o j l = inl (h.leaves t).1
