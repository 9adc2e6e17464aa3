-- Members are put in by rising id, one after the other from the last.
use Rattle.std.proofs.Common.{◌≡◌, ℕ, suc, ◌+◌, ◌<◌, ◌≤◌, nat_lt, Bool, true, false, cond, not, ◌&&◌, List, [], ◌∷◌}
use Rattle.std.proofs.Common.{length, map, drop, get_or, Some, None, refl, sym, ap, ◌∙◌, arith}
use Rattle.std.specs.List.{list_all, insert, position, position_or_len}
use Rattle.std.specs.Option.{unwrap_or}
use Rattle.std.proofs.lemmas.Bool.Decides.{nat_tests}
use Rattle.std.proofs.lemmas.List.Sums.{prefix_len-le-length}
use Rattle.std.proofs.lemmas.List.Folds.{list_all_at, list_all-map}
use Rattle.std.proofs.Math.Seq.{drop-cons}
use Rattle.gd_base.specs.Stamps.{is_before}
use Rattle.gd_base.specs.Insertions.{inserted_by}
use Rattle.gd_base.specs.declared.member.Member.{Member}
use Rattle.gd_events.specs.Sound.{is_shift_in_range}
use Rattle.gd_reference.specs.Judging.{by_id}
use Rattle.gd_judging.specs.declared.groups.Named.{Named}
use Rattle.gd_judging.specs.Targets.{as_member, rising}

-- ---- the place of a member

found_or : (b : Bool) (i n : ℕ) → nat_lt i n ≡ b → i ≤ n → unwrap_or (cond b (Some i) None) n ≡ i
found_or true i n t le = refl
found_or false i n t le = grind (arith, nat_tests)

-- the first place where a test passes, or else the end
pub or_end : {X : Type 0} (p : X → Bool) (xs : List X) → unwrap_or (position p xs) (length xs) ≡ position_or_len p xs
or_end p xs = found_or _ (position_or_len p xs) (length xs) refl (prefix_len-le-length _ xs)

insert_next : {X : Type 0} (x y : X) (xs : List X) (n k : ℕ) → k ≡ suc n → insert (y ∷ xs) k x ≡ y ∷ insert xs n x
insert_next x y xs n k e = ap (λ (i : ℕ). insert (y ∷ xs) i x) e

pub insert_first : (m : Member) (ms : List Member)
    → insert ms (position_or_len (λ n. is_before m.id n.id) ms) m ≡ inserted_by (λ n. n.id) ms m
unfolding inserted_by
insert_first m [] = refl
insert_first m (n ∷ ns) = go (is_before m.id n.id) (insert_first m ns)
  where
    go : (b : Bool) → insert ns (position_or_len (λ k. is_before m.id k.id) ns) m ≡ inserted_by (λ k. k.id) ns m
        → insert (n ∷ ns) (cond (not b) (1 + position_or_len (λ k. is_before m.id k.id) ns) 0) m
        ≡ cond b (m ∷ n ∷ ns) (n ∷ inserted_by (λ k. k.id) ns m)
    go true h = refl
    go false h =
        insert_next m n ns (position_or_len (λ k. is_before m.id k.id) ns)
        (1 + position_or_len (λ k. is_before m.id k.id) ns) (omega arith)
        ∙ ap (λ (l : List Member). n ∷ l) h

-- ---- one member more

rise_by : (m : Member) (b c : Bool) (ms sorted : List Member)
    → cond c (Some (by_id ms)) None ≡ Some sorted → b ≡ true
    → cond (b && c) (Some (inserted_by (λ n. n.id) (by_id ms) m)) None ≡ Some (inserted_by (λ n. n.id) sorted m)
rise_by m true true ms sorted h e = let k : by_id ms
    ≡ sorted = cc in ap (λ (l : List Member). Some (inserted_by (λ n. n.id) l m)) k
rise_by m true false ms sorted h e = cc
rise_by m false c ms sorted h e = cc

pub rise : (m : Member) (ms sorted : List Member) → rising ms ≡ Some sorted → is_shift_in_range m ≡ true
    → rising (m ∷ ms) ≡ Some (inserted_by (λ n. n.id) sorted m)
unfolding by_id
rise m ms sorted h e = rise_by m (is_shift_in_range m) (list_all is_shift_in_range ms) ms sorted h e

-- ---- a list of objects, from the last one on

drop_map : (ns : List Named) (i : ℕ) (n : Named) → i < length ns → n ≡ get_or ns i n
    → map as_member (drop i ns) ≡ as_member n ∷ map as_member (drop (suc i) ns)
drop_map ns i n inside at = ap (map as_member) (drop-cons ns i n inside)
    ∙ ap (λ (k : Named). as_member k ∷ map as_member (drop (suc i) ns)) (sym at)

pub rise_none : rising [] ≡ Some []
unfolding by_id
rise_none = refl

pub rise_at : (ns : List Named) (i j : ℕ) (n : Named) (m : Member) (sorted : List Member) → suc i ≡ j → i < length ns
    → n ≡ get_or ns i n
    → rising (map as_member (drop j ns)) ≡ Some sorted
    → cond (is_shift_in_range (as_member n)) (Some (as_member n)) None ≡ Some m
    → rising (map as_member (drop i ns)) ≡ Some (inserted_by (λ k. k.id) sorted m)
rise_at ns i j n m sorted e inside at h k =
    ap rising (drop_map ns i n inside at)
    ∙ go (is_shift_in_range (as_member n)) refl k (ap (λ (l : ℕ). rising (map as_member (drop l ns))) e ∙ h)
  where
    go : (b : Bool) → is_shift_in_range (as_member n) ≡ b → cond b (Some (as_member n)) None ≡ Some m
        → rising (map as_member (drop (suc i) ns)) ≡ Some sorted
        → rising (as_member n ∷ map as_member (drop (suc i) ns)) ≡ Some (inserted_by (λ k. k.id) sorted m)
    go true is k h =
        let same : as_member n ≡ m = cc in
        rise (as_member n) (map as_member (drop (suc i) ns)) sorted h is
        ∙ ap (λ (x : Member). Some (inserted_by (λ k. k.id) sorted x)) same
    go false is k h = cc

pub rise_not : (ns : List Named) (i : ℕ) (n : Named) → i < length ns → n ≡ get_or ns i n
    → cond (is_shift_in_range (as_member n)) (Some (as_member n)) None ≡ None → rising (map as_member ns) ≡ None
rise_not ns i n inside at h = go (is_shift_in_range (as_member n)) refl h
  where
    go : (b : Bool) → is_shift_in_range (as_member n) ≡ b → cond b (Some (as_member n)) None ≡ None
        → rising (map as_member ns) ≡ None
    go true is h = cc
    go false is h =
        let out : list_all is_shift_in_range (map as_member ns) ≡ false =
        list_all-map is_shift_in_range as_member ns
        ∙ list_all_at (λ k. is_shift_in_range (as_member k)) ns i n inside
        (ap (λ (k : Named). is_shift_in_range (as_member k)) (sym at) ∙ is) in
        ap (λ (b : Bool). cond b (Some (by_id (map as_member ns))) None) out
