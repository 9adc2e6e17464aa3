-- What is made of the parts of a snapshot.
use Rattle.std.specs.Prelude.{◌≡◌, ℕ, List, [], ◌∷◌, length, IsTrue}
use Rattle.std.specs.List.{AllByRecursion}
use Rattle.gd_base.specs.Sites.{is_site}
use Rattle.gd_base.specs.Stamps.{Stamp, is_before}
use Rattle.gd_snapshots.specs.Snapshots.{known_of}
use Rattle.gd_snapshots.specs.declared.known.Known.{Known}
use Rattle.gd_stable.specs.Heard.{HeardValue, IsHeard, of_site}

-- what is heard of each site is what is known of it
pub record Hears (known : List Known) (h : HeardValue) : Type 0 where
  pub sites : h.sites ≡ length known
  pub counts : (t : ℕ) → IsTrue (is_site (length known) t) → of_site h.counts t ≡ (known_of known t).count
  pub sures : (t : ℕ) → IsTrue (is_site (length known) t) → of_site h.sures t ≡ (known_of known t).sure
  pub sized : IsHeard h

-- each is before all behind it
abbrev pub Rise : {X : Type 0} → (X → Stamp) → List X → Type 0
Rise key [] = Unit {0}
Rise key (x ∷ xs) = AllByRecursion (λ y. IsTrue (is_before (key x) (key y))) xs × Rise key xs
