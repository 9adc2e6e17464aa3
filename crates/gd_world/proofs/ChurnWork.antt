-- The work of a churn only grows, and is all steps.
use Rattle.std.proofs.Common.{◌≡◌, ℕ, zero, suc, ◌+◌, ◌-◌, ◌<◌, ◌≤◌, Bool, true, false, cond, List, [], ◌∷◌, ◌++◌}
use Rattle.std.proofs.Common.{length, map, fold, take, get_or, refl, sym, ◌∙◌, ap, subst, append_assoc, add-one}
use Rattle.std.proofs.Common.{zero-add, arith}
use Rattle.std.proofs.lemmas.Bool.{cond_both}
use Rattle.std.proofs.lemmas.List.{append-nil, map-append}
use Rattle.std.proofs.lemmas.List.Sums.{fold_more}
use Rattle.std.specs.List.{filter}
use Rattle.std.specs.Prelude.{Option, None, Some, Ok}
use Rattle.gd_effects.specs.Effects.{Effect, Head, Print, Record, Try, Work}
use Rattle.gd_lines.specs.declared.command.ScriptLine.{ScriptLine}
use Rattle.gd_lines.specs.declared.command.ScriptLine.TheVariants as script
use Rattle.gd_worlds.specs.Churn.{Churning, all_hold_all, passages, passed, rounded, rounds_to_all, step, stepped}
use Rattle.gd_worlds.specs.Churn.{times, with_drawn, with_line}
use Rattle.gd_worlds.specs.Rehearsal.{is_work, of_site}

-- these steps were added
pub record Grows (c d : Churning) : Type 0 where
  pub works : List ℕ
  pub work : d.work ≡ c.work ++ map Work works

pub grows_none : (c : Churning) → Grows c c
grows_none c = record { works = []; work = sym (append-nil c.work) }

pub grows_then : {a b c : Churning} → Grows a b → Grows b c → Grows a c
grows_then {a = a} h k = record {
  works = h.works ++ k.works;
  work =
      k.work ∙ ap (λ xs. xs ++ map Work k.works) h.work ∙ append_assoc a.work (map Work h.works) (map Work k.works)
      ∙ ap (λ xs. a.work ++ xs) (sym (map-append Work h.works k.works));
}

only_works : (xs : List Effect) → (ns : List ℕ) × (filter is_work xs ≡ map Work ns)
only_works [] = ([], refl)
only_works (Work n ∷ xs) = let r = only_works xs in (n ∷ r.0, ap (λ ys. Work n ∷ ys) r.1)
only_works (Head bytes ∷ xs) = only_works xs
only_works (Print bytes ∷ xs) = only_works xs
only_works (Record place seen es ∷ xs) = only_works xs
only_works (Try to frame ∷ xs) = only_works xs

pub grows_line : (c : Churning) (line : ScriptLine) → Grows c (with_line c line)
unfolding with_line
grows_line c line = let r = only_works (of_site c.world (Ok line))
    in record { works = r.0; work = ap (λ xs. c.work ++ xs) r.1 }

grows_drawn : (c : Churning) (line : Option ScriptLine) → Grows c (with_drawn c line)
grows_drawn c None = record { works = []; work = sym (append-nil c.work) }
grows_drawn c (Some line) = grows_line c line

pub grows_step : (c : Churning) → Grows c (stepped c)
grows_step c =
    let drawn = step c.made (length c.world.mail) c.generator in
    let h = grows_drawn (record c { generator = drawn.1 }) drawn.0 in
    record { works = h.works; work = h.work }

pub grows_pass : (c : Churning) (passage : ℕ × ℕ) → Grows c (passed c passage)
grows_pass c (from, to) =
    let sent = with_line c (script.Send from to) in
    grows_then (grows_line c (script.Send from to)) (grows_line sent (script.Deliver (length sent.world.mail)))

-- the send is a front of it
pub pass_front : (c : Churning) (from to : ℕ) → Grows (with_line c (script.Send from to)) (passed c (from, to))
pass_front c from to = let sent = with_line c (script.Send from to)
    in grows_line sent (script.Deliver (length sent.world.mail))

pub grows_passes : (c : Churning) (all : List (ℕ × ℕ)) → Grows c (fold passed c all)
grows_passes c [] = grows_none c
grows_passes c (passage ∷ rest) = grows_then (grows_pass c passage) (grows_passes (passed c passage) rest)

pub grows_round : (c : Churning) → Grows c (rounded c)
grows_round c = grows_passes c passages

-- the first of so many passages
pub passes_front : (c : Churning) (all : List (ℕ × ℕ)) (k : ℕ) → Grows (fold passed c (take k all)) (fold passed c all)
passes_front c all zero = grows_passes c all
passes_front c [] (suc k) = grows_none c
passes_front c (passage ∷ rest) (suc k) = passes_front (passed c passage) rest k

-- one more than these is a front of all
pub passage_front : (c : Churning) (all : List (ℕ × ℕ)) (k : ℕ) (d : ℕ × ℕ) → k < length all
    → Grows (passed (fold passed c (take k all)) (get_or all k d)) (fold passed c all)
passage_front c all k d inside
    = subst (λ (b : Churning). Grows b (fold passed c all)) (fold_more passed c all k d inside)
    (passes_front c all (k + 1))

module _ (next : Churning → Churning) where
  times_suc : (n : ℕ) (c : Churning) → times (suc n) next c ≡ next (times n next c)
  unfolding times
  times_suc zero c = refl
  times_suc (suc n) c = times_suc n (next c)

  pub times_none : (c : Churning) → c ≡ times 0 next c
  unfolding times
  times_none c = refl

  -- the last of so many
  pub times_one_more : (n : ℕ) (c : Churning) → times (n + 1) next c ≡ next (times n next c)
  times_one_more n c = ap (λ k. times k next c) (add-one n) ∙ times_suc n c

  times_split : (m n all : ℕ) (c : Churning) → all ≡ m + n → times all next c ≡ times n next (times m next c)
  unfolding times
  times_split zero n all c e = ap (λ k. times k next c) (e ∙ zero-add n)
  times_split (suc m) n zero c e = absurd (omega arith)
  times_split (suc m) n (suc all) c e = times_split m n all (next c) (omega arith)

  module _ (grows : (c : Churning) → Grows c (next c)) where
    pub times_grows : (n : ℕ) (c : Churning) → Grows c (times n next c)
    unfolding times
    times_grows zero c = grows_none c
    times_grows (suc n) c = grows_then (grows c) (times_grows n (next c))

    -- one more than were done is a front of all
    pub times_front : (n all : ℕ) (c : Churning) → n < all → Grows (next (times n next c)) (times all next c)
    times_front n all c inside =
        let rest = all - (n + 1) in
        subst (λ (d : Churning). Grows (next (times n next c)) d) (sym (times_split (n + 1) rest all c (omega arith)))
        (subst (λ (b : Churning). Grows b (times rest next (times (n + 1) next c))) (times_one_more n c)
        (times_grows rest (times (n + 1) next c)))

-- ---- rounds until every site holds every event

-- every site holds every event of a churn
abbrev pub is_done : Churning → Bool
is_done c = all_hold_all c.world

pub to_all_none : (c : Churning) → c ≡ rounds_to_all 0 c
unfolding rounds_to_all
to_all_none c = refl

pub to_all_grows : (most : ℕ) (c : Churning) → Grows c (rounds_to_all most c)
unfolding rounds_to_all
to_all_grows zero c = grows_none c
to_all_grows (suc most) c =
    cond_both (is_done c) c (rounds_to_all most (rounded c)) (Grows c) (λ done. grows_none c)
    (λ other. grows_then (grows_round c) (to_all_grows most (rounded c)))

chosen_first : (test : Bool) (c d : Churning) → test ≡ true → cond test c d ≡ c
chosen_first true c d e = refl
chosen_first false c d e = cc

chosen_other : (test : Bool) (c d : Churning) → test ≡ false → cond test c d ≡ d
chosen_other true c d e = cc
chosen_other false c d e = refl

-- none is left to be done
to_all_stays : (most : ℕ) (c : Churning) → is_done c ≡ true → rounds_to_all most c ≡ c
unfolding rounds_to_all
to_all_stays zero c done = refl
to_all_stays (suc most) c done = chosen_first (is_done c) c (rounds_to_all most (rounded c)) done

to_all_one : (c : Churning) → is_done c ≡ false → rounds_to_all (suc zero) c ≡ rounded c
unfolding rounds_to_all
to_all_one c other = chosen_other (is_done c) c (rounded c) other

-- where it is chosen among two, both lead to the same
chosen_leads : (test : Bool) (n : ℕ) (all c near : Churning) → (test ≡ true → cond test c all ≡ rounds_to_all n c)
    → all ≡ rounds_to_all n near → cond test c all ≡ rounds_to_all n (cond test c near)
chosen_leads true n all c near stays goes = stays refl
chosen_leads false n all c near stays goes = goes

to_all_split : (m n all : ℕ) (c : Churning) → all ≡ m + n → rounds_to_all all c ≡ rounds_to_all n (rounds_to_all m c)
unfolding rounds_to_all
to_all_split zero n all c e = ap (λ k. rounds_to_all k c) (e ∙ zero-add n)
to_all_split (suc m) n zero c e = absurd (omega arith)
to_all_split (suc m) n (suc all) c e =
    chosen_leads (is_done c) n (rounds_to_all all (rounded c)) c (rounds_to_all m (rounded c))
    (λ done. chosen_first (is_done c) c (rounds_to_all all (rounded c)) done ∙ sym (to_all_stays n c done))
    (to_all_split m n all (rounded c) (omega arith))

-- one round more
pub to_all_more : (n : ℕ) (c : Churning) → is_done (rounds_to_all n c) ≡ false
    → rounds_to_all (n + 1) c ≡ rounded (rounds_to_all n c)
to_all_more n c other = to_all_split n (suc zero) (n + 1) c (omega arith) ∙ to_all_one (rounds_to_all n c) other

-- no more are done
pub to_all_done : (n most : ℕ) (c : Churning) → n ≤ most → is_done (rounds_to_all n c) ≡ true
    → rounds_to_all n c ≡ rounds_to_all most c
to_all_done n most c few done
    = sym (to_all_split n (most - n) most c (omega (arith, few)) ∙ to_all_stays (most - n) (rounds_to_all n c) done)

-- one more than were done is a front of all
pub to_all_front : (n most : ℕ) (c : Churning) → n < most → is_done (rounds_to_all n c) ≡ false
    → Grows (rounded (rounds_to_all n c)) (rounds_to_all most c)
to_all_front n most c inside other =
    let rest = most - (n + 1) in
    subst (λ (d : Churning). Grows (rounded (rounds_to_all n c)) d)
    (sym (to_all_split (n + 1) rest most c (omega (arith, inside))))
    (subst (λ (b : Churning). Grows b (rounds_to_all rest (rounds_to_all (n + 1) c))) (to_all_more n c other)
    (to_all_grows rest (rounds_to_all (n + 1) c)))
