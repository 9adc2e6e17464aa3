-- The objects of a new group, one id after the other, and what is made of them.
use Rattle.std.proofs.Common.{◌≡◌, ℕ, ◌+◌, ◌<◌, ◌≤◌, Bool, true, false, cond, not, ◌&&◌, List, [], ◌∷◌, ◌++◌, map}
use Rattle.std.proofs.Common.{Option, Some, None, Result, Ok, Err, refl, sym, ap, ap₂, ◌∙◌, append_assoc, length, take}
use Rattle.std.proofs.Common.{drop, get_or, ◌-◌, arith}
use Rattle.std.specs.Prelude.{option_map}
use Rattle.std.specs.List.{list_all}
use Rattle.std.proofs.lemmas.List.{append-nil, drop_all, drop_more, take_all, length-drop}
use Rattle.std.proofs.lemmas.List.Folds.{list_all-map}
use Rattle.gd_base.specs.Stamps.{Stamp}
use Rattle.gd_base.specs.declared.member.Member.{Member}
use Rattle.gd_base.specs.declared.refusal.EditRefusal.{EditRefusal}
use Rattle.gd_base.specs.declared.refusal.EditRefusal.TheVariants.{SameMember, NotTop, TooFar}
use Rattle.gd_base.specs.declared.op.Op.TheVariants as op
use Rattle.gd_events.specs.Ops.{Op}
use Rattle.gd_events.specs.Sound.{is_shift_in_range}
use Rattle.gd_reference.specs.Judging.{Target, targets, with_another, are_apart, is_other, member_at, by_id, grouped}
use Rattle.gd_judging.specs.declared.groups.Named.{Named}
use Rattle.gd_judging.specs.Targets.{as_named, as_member, rising}

-- ---- the objects are looked up

-- what is found of these ids, behind what was found before them
abbrev pub behind : List Named → Option (List (Stamp × Target)) → Option (List Named)
behind before found = option_map (λ ts. before ++ map as_named ts) found

behind-another : (before : List Named) (id : Stamp) (t : Target) (found : Option (List (Stamp × Target)))
    → behind before (with_another id (Some t) found) ≡ behind (before ++ as_named (id, t) ∷ []) found
behind-another before id t None = refl
behind-another before id t (Some ts)
    = ap (λ (l : List Named). Some l) (sym (append_assoc before (as_named (id, t) ∷ []) (map as_named ts)))

drop_at : {X : Type 0} (xs : List X) (i : ℕ) (x : X) → i < length xs → x ≡ get_or xs i x
    → drop i xs ≡ x ∷ drop (i + 1) xs
drop_at xs i x inside at = drop_more xs i x inside ∙ ap (λ y. y ∷ drop (i + 1) xs) (sym at)

module _ (look : Stamp → Option Target) (before : List Named) (ids : List Stamp) (i : ℕ) where
  pub found_all : length ids ≤ i → behind before (targets look (drop i ids)) ≡ Some before
  unfolding targets
  found_all end = ap (λ (l : List Stamp). behind before (targets look l)) (drop_all i ids end)
      ∙ ap (λ (l : List Named). Some l) (append-nil before)

  module _ (id : Stamp) (inside : i < length ids) (at : id ≡ get_or ids i id) where
    next : (t : Option Target) → look id ≡ t
        → behind before (targets look (drop i ids))
        ≡ behind before (with_another id t (targets look (drop (i + 1) ids)))
    unfolding targets
    next t is =
        ap (λ (l : List Stamp). behind before (targets look l)) (drop_at ids i id inside at)
        ∙ ap (λ (o : Option Target). behind before (with_another id o (targets look (drop (i + 1) ids)))) is

    pub found_none : look id ≡ None → behind before (targets look (drop i ids)) ≡ None
    found_none is = next None is

    pub found_next : (t : Target) → look id ≡ Some t
        → behind before (targets look (drop i ids))
        ≡ behind (before ++ as_named (id, t) ∷ []) (targets look (drop (i + 1) ids))
    found_next t is = next (Some t) is ∙ behind-another before id t (targets look (drop (i + 1) ids))

-- ---- the group of those that were found

abbrev apart : List Named → Bool
apart ns = are_apart (map (λ n. n.id) ns)

apart_next : (n : Named) (ns : List Named) → apart (n ∷ ns) ≡ (list_all (λ m. is_other n.id m.id) ns && apart ns)
unfolding are_apart
apart_next n ns = ap (λ (b : Bool). b && apart ns) (list_all-map (is_other n.id) (λ m. m.id) ns)

take_rest : {X : Type 0} (xs : List X) (i : ℕ) → take (length xs - i) (drop i xs) ≡ drop i xs
take_rest xs i = take_all (length xs - i) (drop i xs) (omega (arith, length-drop i xs))

module _ (ns : List Named) (k : ℕ) (d : Named) (inside : k < length ns) (b : Bool)
    (is : list_all (λ m. is_other (get_or ns k d).id m.id) (take (length ns - (k + 1)) (drop (k + 1) ns)) ≡ b) where
  apart_from : apart (drop k ns) ≡ (b && apart (drop (k + 1) ns))
  apart_from =
      ap apart (drop_more ns k d inside) ∙ apart_next (get_or ns k d) (drop (k + 1) ns)
      ∙ ap (λ (l : List Named). list_all (λ m. is_other (get_or ns k d).id m.id) l && apart (drop (k + 1) ns))
      (sym (take_rest ns (k + 1)))
      ∙ ap (λ (t : Bool). t && apart (drop (k + 1) ns)) is

  pub apart_not : b ≡ false → apart (drop k ns) ≡ false
  apart_not e = apart_from ∙ ap (λ (t : Bool). t && apart (drop (k + 1) ns)) e

  pub apart_on : b ≡ true → apart (drop (k + 1) ns) ≡ apart (drop k ns)
  apart_on e = sym (apart_from ∙ ap (λ (t : Bool). t && apart (drop (k + 1) ns)) e)

ids_named : (ts : List (Stamp × Target)) → map (λ n. n.id) (map as_named ts) ≡ map (λ t. t.0) ts
ids_named [] = refl
ids_named (t ∷ ts) = ap (λ (l : List Stamp). t.0 ∷ l) (ids_named ts)

members_named : (ts : List (Stamp × Target)) → map as_member (map as_named ts) ≡ map member_at ts
members_named [] = refl
members_named (t ∷ ts) = ap (λ (l : List Member). member_at t ∷ l) (members_named ts)

abbrev made : Option (List Member) → Result Op EditRefusal
made None = Err TooFar
made (Some ms) = Ok (op.Group ms)

made_rising : (ms : List Member) → (b : Bool)
    → made (cond b (Some (by_id ms)) None) ≡ cond (not b) (Err TooFar) (Ok (op.Group (by_id ms)))
made_rising ms true = refl
made_rising ms false = refl

-- the group, by what is kept of the objects
abbrev grouped_by : Bool → Bool → Option (List Member) → Result Op EditRefusal
grouped_by apart free ms = cond (not apart) (Err SameMember) (cond (not free) (Err NotTop) (made ms))

pub is_grouped : (ns : List Named) (ts : List (Stamp × Target)) → map as_named ts ≡ ns
    → grouped_by (are_apart (map (λ n. n.id) ns)) (list_all (λ n. n.is_free) ns) (rising (map as_member ns))
    ≡ grouped ts
is_grouped ns ts e = rw (
  ← e,
  ids_named ts,
  list_all-map (λ n. n.is_free) as_named ts,
  members_named ts,
  made_rising (map member_at ts)
      (list_all is_shift_in_range (map member_at ts)),
) refl

module _ (ns : List Named) (ts : List (Stamp × Target)) (e : map as_named ts ≡ ns) where
  pub group_same : are_apart (map (λ n. n.id) ns) ≡ false → Err SameMember ≡ grouped ts
  group_same a = ap (λ b. grouped_by b (list_all (λ n. n.is_free) ns) (rising (map as_member ns))) (sym a)
      ∙ is_grouped ns ts e

  pub group_nested : are_apart (map (λ n. n.id) ns) ≡ true → list_all (λ n. n.is_free) ns ≡ false
      → Err NotTop ≡ grouped ts
  group_nested a f = ap₂ (λ b c. grouped_by b c (rising (map as_member ns))) (sym a) (sym f) ∙ is_grouped ns ts e

  pub group_made : (ms : Option (List Member)) → are_apart (map (λ n. n.id) ns) ≡ true
      → list_all (λ n. n.is_free) ns ≡ true → rising (map as_member ns) ≡ ms
      → made ms ≡ grouped ts
  group_made ms a f r =
      ap made (sym r) ∙ ap₂ (λ b c. grouped_by b c (rising (map as_member ns))) (sym a) (sym f) ∙ is_grouped ns ts e
