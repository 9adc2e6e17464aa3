-- The steps that were taken where memory ran out.
use Rattle.std.proofs.Common.{◌≡◌, ℕ, zero, suc, ◌+◌, ◌-◌, ◌≤◌, List, [], ◌∷◌, length, map, refl, sym, ap, ◌∙◌}
use Rattle.std.proofs.Common.{append-nil, arith}
use Rattle.std.proofs.lemmas.List.Sums.{sum_by-cons}
use Rattle.gd_answers.specs.Paying.{PaysFront}
use Rattle.gd_effects.specs.Effects.{Effect, Work, cost, works}
use Rattle.gd_events.specs.Events.{Event}

module _ {before after : ℕ} (xs : List Effect) where
  pub pays_all : after ≡ before + cost xs → PaysFront before xs after
  pays_all is = record { front = xs; back = []; split = sym (append-nil xs); paid = is }

  pub pays_none : after ≡ before → PaysFront before xs after
  pays_none is = record { front = []; back = xs; split = refl; paid = omega (arith, is) }

-- ---- one step for each event

-- its step comes first
one_first : (xs : List Effect) → cost (Work 1 ∷ xs) ≡ 1 + cost xs
one_first xs = sum_by-cons works (Work 1) xs

pub cost_ones : (es : List Event) → cost (map (λ e. Work 1) es) ≡ length es
cost_ones [] = refl
cost_ones (e ∷ es) = omega (arith, one_first (map (λ e. Work 1) es), cost_ones es)

some_ones : (before k : ℕ) (es : List Event) → k ≤ length es → PaysFront before (map (λ e. Work 1) es) (before + k)
some_ones before zero es few = pays_none (map (λ e. Work 1) es) (omega arith)
some_ones before (suc k) [] few = absurd (omega (arith, few))
some_ones before (suc k) (e ∷ es) few =
    let rest = some_ones before k es (omega (arith, few)) in
    record {
      front = Work 1 ∷ rest.front;
      back = rest.back;
      split = ap (λ (xs : List Effect). Work 1 ∷ xs) rest.split;
      paid = omega (arith, rest.paid, one_first rest.front);
    }

-- a part of them
pub pays_ones : (before after : ℕ) (es : List Event) → before ≤ after → after ≤ before + length es
    → PaysFront before (map (λ e. Work 1) es) after
pays_ones before after es later few
    = some_as (before + (after - before)) (omega (arith, later))
    (some_ones before (after - before) es (omega (arith, later, few)))
  where
    some_as : (steps : ℕ) → steps ≡ after → PaysFront before (map (λ e. Work 1) es) steps
        → PaysFront before (map (λ e. Work 1) es) after
    some_as steps same h = record { front = h.front; back = h.back; split = h.split; paid = sym same ∙ h.paid }
