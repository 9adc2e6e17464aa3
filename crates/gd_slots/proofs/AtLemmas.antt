-- Each value of the board stands in exactly one slot, and each value of a slot on the board.
use Rattle.std.proofs.Common.{◌≡◌, ℕ, zero, suc, true, false, cond, [], ◌∷◌, Option, None, Some, refl, sym, ap, ◌∙◌}
use Rattle.std.specs.Prelude.{unwrap_or}
use Rattle.std.specs.List.{IsDistinct, AllByRecursion}
use Rattle.std.specs.FinMap as map_of
use Rattle.gd_base.specs.Stamps.{Stamp, is_same}
use Rattle.gd_base.proofs.StampLemmas.{is_same-true, is_same-refl, is_same-comm}
use Rattle.gd_slots.specs.Slots.{Slots, board_of, ids, value_of, value_at, OneSlot}
use Rattle.gd_slots.proofs.SlotLemmas.{get-step, get-none}

module _ {V : Type 0} where
  inside : (a b : Stamp × V) → Some a ≡ Some b → a ≡ b
  inside a b e = ap (λ x. unwrap_or x a) e

  -- what a slot at hand holds
  held : (e : Stamp × Option V) (id : Stamp) (v : V) → value_of (Some e) ≡ Some (id, v) → (e.0 ≡ id) × (e.1 ≡ Some v)
  held (i, None) id v h = cc
  held (i, Some w) id v h = let pair = inside (i, w) (id, v) h in (ap (λ q. q.0) pair, ap (λ q. Some q.1) pair)

  -- an id in the slots is apart from one that is apart from all
  apart_at : (x : Stamp) (es : Slots V) (k : ℕ) (id : Stamp) (v : V)
      → AllByRecursion (λ y. is_same x y ≡ false) (ids es)
      → value_at es k ≡ Some (id, v) → is_same x id ≡ false
  apart_at x [] k id v a h = cc
  apart_at x (e ∷ es) zero id v a h = ap (is_same x) (sym (held e id v h).0) ∙ a.0
  apart_at x (e ∷ es) (suc k) id v a h = apart_at x es k id v a.1 h

  pub at_get : (es : Slots V) → IsDistinct is_same (ids es) → (k : ℕ) (id : Stamp) (v : V)
      → value_at es k ≡ Some (id, v)
      → map_of.get (board_of es) id ≡ Some v
  unfolding IsDistinct
  at_get [] d k id v h = cc
  at_get (e ∷ es) d zero id v h =
      let here = held e id v h in
      get-step e es id
      ∙ ap (λ t. cond t e.1 (map_of.get (board_of es) id)) (ap (is_same id) here.0 ∙ is_same-refl id) ∙ here.1
  at_get (e ∷ es) d (suc k) id v h =
      get-step e es id
      ∙ ap (λ t. cond t e.1 (map_of.get (board_of es) id)) (is_same-comm id e.0 ∙ apart_at e.0 es k id v d.0 h)
      ∙ at_get es d.1 k id v h

  holds : (e : Stamp × Option V) (id : Stamp) (v : V) → e.0 ≡ id → e.1 ≡ Some v → value_of (Some e) ≡ Some (id, v)
  holds (i, None) id v a b = cc
  holds (i, Some w) id v a b = λ j. Some (a j, unwrap_or (b j) w)

  here_slot : (e : Stamp × Option V) (es : Slots V) (id : Stamp) (v : V)
      → AllByRecursion (λ y. is_same e.0 y ≡ false) (ids es)
      → e.0 ≡ id → e.1 ≡ Some v → OneSlot (e ∷ es) id v
  here_slot e es id v apart a b = record { index = zero; there = holds e id v a b; only = only }
    where
      only : (k : ℕ) (w : V) → value_at (e ∷ es) k ≡ Some (id, w) → k ≡ zero
      only zero w h = refl
      only (suc k) w h =
          let no : is_same e.0 id ≡ false = apart_at e.0 es k id w apart h in
          let yes : is_same e.0 id ≡ true = ap (λ i. is_same i id) a ∙ is_same-refl id in
          cc

  later_slot : (e : Stamp × Option V) (es : Slots V) (id : Stamp) (v : V) → is_same id e.0 ≡ false → OneSlot es id v
      → OneSlot (e ∷ es) id v
  later_slot e es id v apart one = record { index = suc one.index; there = one.there; only = only }
    where
      only : (k : ℕ) (w : V) → value_at (e ∷ es) k ≡ Some (id, w) → k ≡ suc one.index
      only zero w h =
          let yes : is_same id e.0 ≡ true = ap (is_same id) (held e id w h).0 ∙ is_same-refl id in
          cc
      only (suc k) w h = ap suc (one.only k w h)

  pub one_slot : (es : Slots V) → IsDistinct is_same (ids es) → (id : Stamp) (v : V)
      → map_of.get (board_of es) id ≡ Some v → OneSlot es id v
  unfolding IsDistinct
  one_slot [] d id v h = let none = get-none {V = V} id in cc
  one_slot (e ∷ es) d id v h =
      elim (is_same id e.0) as
      (λ t. is_same id e.0 ≡ t → cond t e.1 (map_of.get (board_of es) id) ≡ Some v → OneSlot (e ∷ es) id v) [
        | true ↦ λ is g. here_slot e es id v d.0 (sym (is_same-true id e.0 is)) g
        | false ↦ λ is g. later_slot e es id v is (one_slot es d.1 id v g)
      ] refl (sym (get-step e es id) ∙ h)
