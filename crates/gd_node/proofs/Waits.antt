-- How lines wait for the end of a gesture.
use Rattle.std.proofs.Common.{◌≡◌, ℕ, zero, suc, ◌<◌, ◌≤◌, List, [], ◌∷◌, ◌++◌, length, take, refl, ap, arith}
use Rattle.std.specs.Prelude.{Err, replicate}
use Rattle.gd_base.specs.declared.refusal.Refusal.TheVariants.{GestureFull}
use Rattle.gd_reference.specs.NodeRun.{most_waiting}
use Rattle.gd_reference.specs.TakeBack.{Asked}

-- the first of them, where there are others behind so many alone
pub first_of : {X : Type 0} (most : ℕ) (xs ys : List X) → length xs ≤ most → (length xs < most → ys ≡ [])
    → take most (xs ++ ys) ≡ xs
first_of zero [] ys few none = refl
first_of (suc most) [] ys few none = ap (take (suc most)) (none (omega arith))
first_of zero (x ∷ xs) ys few none = absurd (omega (arith, few))
first_of (suc most) (x ∷ xs) ys few none
    = ap (λ l. x ∷ l) (first_of most xs ys (omega (arith, few)) (λ less. none (omega (arith, less))))

pub first_waiting : (items : List Asked) (over : ℕ) → length items ≤ most_waiting
    → (length items < most_waiting → over ≡ 0)
    → take most_waiting (items ++ replicate over (Err GestureFull)) ≡ items
first_waiting items over few none
    = first_of most_waiting items (replicate over (Err GestureFull)) few
    (λ less. ap (λ (n : ℕ). replicate n (Err GestureFull)) (none less))
