-- What a board returns where a value is put into it, or taken out.
use Rattle.std.proofs.Common.{◌≡◌, Bool, true, false, cond, Option, None, Some, refl, sym, ap, ◌∙◌}
use Rattle.std.specs.FinMap as map_of
use Rattle.gd_base.specs.Stamps.{Stamp, is_same}
use Rattle.gd_base.proofs.StampLemmas.{is_same-true, is_same-refl}
use Rattle.gd_base.specs.StampTotal.{stamp_cmp-total, stamp_cmp-IsAntisymmetric}
use Rattle.gd_slots.specs.Slots.{Board, put_at}

-- where the keys are the same, a term may speak of either
pub at_same : {X : Type 0} (q k : Stamp) (f : Stamp → X) (y : X)
    → cond (is_same q k) (f k) y ≡ cond (is_same q k) (f q) y
at_same {X} q k f y =
    elim (is_same q k) as (λ b. is_same q k ≡ b → cond b (f k) y ≡ cond b (f q) y) [
      | true ↦ λ e. ap f (sym (is_same-true q k e))
      | false ↦ λ e. refl
    ] refl

-- what a test chose before doesn't matter where it chooses again
pub cond_over : {X : Type 0} (t : Bool) (x y z : X) → cond t x (cond t y z) ≡ cond t x z
cond_over true x y z = refl
cond_over false x y z = refl

-- of two tests that don't both hold either may come first
cond_apart : {X : Type 0} (s t : Bool) (x y z : X) → (t ≡ true → s ≡ false)
    → cond s x (cond t y z) ≡ cond t y (cond s x z)
cond_apart true true x y z h = let e = h refl in cc
cond_apart true false x y z h = refl
cond_apart false t x y z h = refl

-- of two that are the same a test chooses that one
pub cond_same : {X : Type 0} (t : Bool) (x : X) → cond t x x ≡ x
cond_same true x = refl
cond_same false x = refl

-- a stamp is itself
pub at_itself : {X : Type 0} (s : Stamp) (x y : X) → cond (is_same s s) x y ≡ x
at_itself s x y = ap (λ b. cond b x y) (is_same-refl s)

module _ {V : Type 0} where
  pub get-put_at : (b : Board V) (k : Stamp) (x : Option V) (q : Stamp)
      → map_of.get (put_at b k x) q ≡ cond (is_same q k) x (map_of.get b q)
  get-put_at b k None q = map_of.get-remove stamp_cmp-total b k q
  get-put_at b k (Some o) q = map_of.get-insert stamp_cmp-total b k o q

  -- boards that return the same are equal
  pub same_board : (b c : Board V) → ((q : Stamp) → map_of.get b q ≡ map_of.get c q) → b ≡ c
  same_board = map_of.same_map stamp_cmp-total stamp_cmp-IsAntisymmetric

  -- to put an object where it stands, or to remove one that isn't there, changes nothing
  pub put_at-kept : (b : Board V) (k : Stamp) (x : Option V) → map_of.get b k ≡ x → put_at b k x ≡ b
  put_at-kept b k x e =
      same_board _ b (λ q. get-put_at b k x q ∙ ap (λ y. cond (is_same q k) y (map_of.get b q)) (sym e)
      ∙ at_same q k (map_of.get b) (map_of.get b q) ∙ cond_same (is_same q k) (map_of.get b q))

  -- the second of two that are put at one id counts
  pub put_at-over : (b : Board V) (k : Stamp) (x y : Option V) → put_at (put_at b k x) k y ≡ put_at b k y
  put_at-over b k x y =
      same_board _ _ (λ q. get-put_at (put_at b k x) k y q ∙ ap (cond (is_same q k) y) (get-put_at b k x q)
      ∙ cond_over (is_same q k) y x (map_of.get b q) ∙ sym (get-put_at b k y q))

  -- of two ids it doesn't matter at which an object is put first
  pub put_at-apart : (b : Board V) (k j : Stamp) (x y : Option V) → is_same k j ≡ false
      → put_at (put_at b k x) j y ≡ put_at (put_at b j y) k x
  put_at-apart b k j x y apart =
      same_board _ _ (λ q. get-put_at (put_at b k x) j y q
      ∙ ap (cond (is_same q j) y) (get-put_at b k x q)
      ∙ cond_apart (is_same q j) (is_same q k) y x (map_of.get b q)
      (λ e. ap (λ r. is_same r j) (is_same-true q k e) ∙ apart)
      ∙ sym (get-put_at (put_at b j y) k x q ∙ ap (cond (is_same q k) x) (get-put_at b j y q)))
