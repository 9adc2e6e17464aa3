-- The bytes of the pieces of a snapshot, put one behind the other.
use Rattle.std.proofs.Common.{◌≡◌, ℕ, ◌+◌, ◌*◌, ◌<◌, ◌^◌, List, [], ◌∷◌, ◌++◌, length, refl, sym, ap, subst, ◌∙◌}
use Rattle.std.proofs.Common.{append_assoc, arith}
use Rattle.std.specs.Int.{bytes_high_first}
use Rattle.std.specs.List.{AllByRecursion}
use Rattle.std.proofs.lemmas.List.{append-nil, length-append}
use Rattle.gd_grammar.specs.FieldBytes.{each_bytes}
use Rattle.gd_snapshots.specs.SnapshotBytes.{known_bytes}
use Rattle.gd_snapshots.specs.Snapshots.{IsKnown, IsSnapshot, Snapshot}
use Rattle.gd_snapshots.specs.declared.known.Known.{Known}
use Rattle.gd_snapshots.proofs.ExactSnapshot.{total-few}

-- ---- what is known of sites, one behind the other

-- what is known of all sites was put behind the bytes that were there, but for those that are left
pub record PutKnown (all : List Known) (before : List ℕ) (left : List Known) (out : List ℕ) : Type 0 where
  pub text : before ++ each_bytes known_bytes all ≡ out ++ each_bytes known_bytes left
  pub long : length out + 8 * length left ≡ length before + 8 * length all
  pub known : AllByRecursion IsKnown left

pub known_start : (all : List Known) (before : List ℕ) → AllByRecursion IsKnown all → PutKnown all before all before
known_start all before known = record { text = refl; long = refl; known = known }

pub known_first : (all left rest : List Known) (before out : List ℕ) (k : Known) → left ≡ k ∷ rest
    → PutKnown all before left out → IsKnown k
known_first all left rest before out k first put
    = (subst (λ (ks : List Known). AllByRecursion IsKnown ks) first put.known).0

pub known_more : (all left rest : List Known) (before out counted now : List ℕ) (k : Known) → left ≡ k ∷ rest
    → counted ≡ out ++ bytes_high_first 2 k.count
    → now ≡ counted ++ bytes_high_first 6 k.sure → PutKnown all before left out → PutKnown all before rest now
unfolding each_bytes
known_more all left rest before out counted now k first count sure put =
    let is : now ≡ out ++ known_bytes k = sure ∙ ap (λ (bytes : List ℕ). bytes ++ bytes_high_first 6 k.sure) count
    ∙ append_assoc out (bytes_high_first 2 k.count) (bytes_high_first 6 k.sure) in
    record {
      text = put.text ∙ ap (λ (ks : List Known). out ++ each_bytes known_bytes ks) first
          ∙ sym (append_assoc out (known_bytes k) (each_bytes known_bytes rest))
          ∙ ap (λ (bytes : List ℕ). bytes ++ each_bytes known_bytes rest) (sym is);
      long = rw is (omega (arith, rw first at put.long, length-append out (known_bytes k)));
      known = (subst (λ (ks : List Known). AllByRecursion IsKnown ks) first put.known).1;
    }

none-left : (left : List Known) → length left ≡ 0 → left ≡ []
none-left [] h = refl
none-left (k ∷ ks) h = absurd (omega (arith, h))

pub known_end : (all left : List Known) (before out : List ℕ) → length left ≡ 0 → PutKnown all before left out
    → out ≡ before ++ each_bytes known_bytes all
unfolding each_bytes
known_end all left before out none put
    = sym (put.text ∙ ap (λ (ks : List Known). out ++ each_bytes known_bytes ks) (none-left left none) ∙ append-nil out)

-- ---- how many there are

-- the objects and the kept events of a good snapshot are no more than the sites made events
pub objects_few : (s : Snapshot) → IsSnapshot s → length s.objects < 2 ^ 32
objects_few s is = omega (arith, is.made, total-few s.known is.known, is.few)

pub kept_few : (s : Snapshot) → IsSnapshot s → length s.kept < 2 ^ 32
kept_few s is = omega (arith, is.made, total-few s.known is.known, is.few)
