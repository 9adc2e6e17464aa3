-- A copy of slots, slot by slot.
use Rattle.std.proofs.Common.{◌≡◌, ℕ, zero, suc, ◌+◌, ◌<◌, true, false, cond, ◌||◌, [], ◌∷◌, ◌++◌, length, drop}
use Rattle.std.proofs.Common.{add-one, Option, Some, refl, sym, ap, subst, ◌∙◌, arith}
use Rattle.std.specs.List.{IsDistinct, AllByRecursion as Every, slice_get}
use Rattle.std.proofs.lemmas.List.{map-append}
use Rattle.std.proofs.Math.Seq.{append_snoc}
use Rattle.indexmap.specs.IndexMap.{insert_entry}
use Rattle.gd_base.specs.Stamps.{Stamp, is_same}
use Rattle.gd_base.proofs.Lists.{Every-back}
use Rattle.gd_base.proofs.StampLemmas.{is_same-comm}
use Rattle.gd_base.specs.contracts.stamp.StampPartialEq.TheImpl.{eq-value}
use Rattle.gd_slots.specs.Slots.{Slots, ids, has_slot, pushed}
use Rattle.gd_slots.proofs.SlotLemmas.{same_is}

module _ {V : Type 0} where
  -- no slot in front has the id of one behind
  apart : (front : Slots V) (e : Stamp × Option V) (rest : Slots V) → IsDistinct is_same (ids (front ++ e ∷ rest))
      → has_slot e.0 front ≡ false
  unfolding IsDistinct
  apart [] e rest d = refl
  apart (x ∷ front) e rest d =
      let behind =
      Every-back (λ y. is_same x.0 y ≡ false) (ids front) (ids (e ∷ rest))
      (subst (Every (λ y. is_same x.0 y ≡ false)) (map-append (λ (s : Stamp × Option V). s.0) front (e ∷ rest)) d.0) in
      (λ i. (is_same-comm e.0 x.0 ∙ behind.0) i || has_slot e.0 front) ∙ apart front e rest d.1

  -- so a slot of its id goes last
  goes_last : (es : Slots V) (e : Stamp × Option V) → has_slot e.0 es ≡ false
      → insert_entry is_same es e.0 e.1 ≡ es ++ e ∷ []
  goes_last [] e new = refl
  goes_last (x ∷ es) e new =
      elim (is_same e.0 x.0) as
      (λ t. (t || has_slot e.0 es) ≡ false
      → cond t ((x.0, e.1) ∷ es) (x ∷ insert_entry is_same es e.0 e.1) ≡ x ∷ es ++ e ∷ []) [
        | true ↦ λ there. cc
        | false ↦ λ more. ap (λ l. x ∷ l) (goes_last es e more)
      ] new

  slot_read : (es : Slots V) (k : ℕ) → k < length es
      → (e : Stamp × Option V) × (slice_get es k ≡ Some e) × (drop k es ≡ e ∷ drop (suc k) es)
  slot_read [] k inside = absurd (omega arith)
  slot_read (e ∷ es) zero inside = (e, refl, refl)
  slot_read (e ∷ es) (suc k) inside = slot_read es k (omega arith)

  -- one slot more is copied
  pub copied_more : (es copied new : Slots V) (k : ℕ) → IsDistinct is_same (ids es) → copied ++ drop k es ≡ es
      → k < length es
      → new ≡ pushed (slice_get es k) copied → new ++ drop (k + 1) es ≡ es
  copied_more es copied new k distinct so_far inside is =
      let here = slot_read es k inside in
      let e = here.0 in
      let whole : copied ++ e ∷ drop (suc k) es ≡ es = ap (λ l. copied ++ l) (sym here.2) ∙ so_far in
      let new_slot = apart copied e (drop (suc k) es)
      (subst (λ (l : Slots V). IsDistinct is_same (ids l)) (sym whole) distinct) in
      let last : new ≡ copied ++ e ∷ [] = is ∙ ap (λ s. pushed s copied) here.1 ∙ goes_last copied e new_slot in
      ap (λ l. l ++ drop (k + 1) es) last
      ∙ append_snoc copied e (drop (k + 1) es) ∙ ap (λ n. copied ++ e ∷ drop n es) (add-one k) ∙ whole

  -- what `push` leaves. es are the entries of the map, and now are the slots.
  pub slot_pushed : (es now fs : Slots V) (e : Stamp × Option V) → es ≡ now → fs ≡ insert_entry eq-value.it es e.0 e.1
      → fs ≡ pushed (Some e) now
  slot_pushed es now fs e view written = written ∙ (λ i. insert_entry (same_is i) (view i) e.0 e.1)
