-- A new world: its members are made one by one, and it stands for the world at the start.
use Rattle.std.proofs.Common.{◌≡◌, ◌≢◌, ℕ, ◌+◌, ◌<◌, ◌≤◌, ◌^◌, List, [], ◌∷◌, ◌++◌, length, slice_get, Some, refl, sym}
use Rattle.std.proofs.Common.{ap, ◌∙◌, subst₂, arith, inl, inr}
use Rattle.std.proofs.lemmas.Bool.{cases_eq}
use Rattle.std.proofs.lemmas.List.{length-append, get_or_push, get_or_append_left}
use Rattle.std.proofs.lemmas.Option.{slice_get_within, get_or_from_slice_get, slice_get-get_or}
use Rattle.gd_base.specs.declared.ranges.TheConstants.{SITES}
use Rattle.gd_reference.specs.SlowSite.{new_site}
use Rattle.gd_reference.specs.World.{after_from, start}
use Rattle.gd_takeback.specs.Standing.{StandsWith}
use Rattle.gd_world.specs.Standing.{AreNew, StandsFor}
use Rattle.gd_world.specs.declared.member.Member.{Member}

-- the first so many members of a new world
pub record AreMade (count n session : ℕ) (members : List Member) : Type 0 where
  pub so_many : length members ≡ count
  pub each : (k : ℕ) (member : Member) → slice_get members k ≡ Some member
      → StandsWith (new_site (k + 1) n session) member.site member.backs

-- what is read from a list with one more element
slice_get-last : {X : Type 0} (xs : List X) (y x : X) (k : ℕ) → slice_get (xs ++ y ∷ []) k ≡ Some x → k ≡ length xs
    → x ≡ y
slice_get-last xs y x k e same = sym (get_or_from_slice_get (xs ++ y ∷ []) k x x e) ∙ get_or_push xs y x k (sym same)

slice_get-front : {X : Type 0} (xs : List X) (y x : X) (k : ℕ) → slice_get (xs ++ y ∷ []) k ≡ Some x → k ≢ length xs
    → slice_get xs k ≡ Some x
slice_get-front xs y x k e other =
    let within : k < length xs = omega (arith, other, slice_get_within (xs ++ y ∷ []) k x e, length-append xs (y ∷ []))
    in
    slice_get-get_or xs k x within
    ∙ ap Some (sym (get_or_append_left xs (y ∷ []) x k within) ∙ get_or_from_slice_get (xs ++ y ∷ []) k x x e)

pub made_more : (count n session : ℕ) (members : List Member) (member : Member) → AreMade count n session members
    → StandsWith (new_site (count + 1) n session) member.site member.backs
    → AreMade (count + 1) n session (members ++ member ∷ [])
made_more count n session members member made new = record {
  so_many = omega (arith, length-append members (member ∷ []), made.so_many);
  each = λ k m e. elim (cases_eq k (length members)) [
    | inl last ↦
        let is_new : m ≡ member = slice_get-last members member m k e last in
        let same : count ≡ k = sym (last ∙ made.so_many) in
        subst₂ (λ (j : ℕ) (x : Member). StandsWith (new_site (j + 1) n session) x.site x.backs) same (sym is_new) new
    | inr other ↦ made.each k m (slice_get-front members member m k e other)
  ];
}

pub stands_new : (n session : ℕ) (members : List Member) → 1 ≤ n → n ≤ SITES → session < 2 ^ 32
    → AreNew n session members → StandsFor (start n session) (record { members = members; mail = [] })
unfolding after_from
stands_new n session members low high ranged new = record {
  session = (low, high, ranged);
  steps = [];
  ranged = tt;
  reached = refl;
  members = new.count;
  each = new.each;
  mail = refl;
}
