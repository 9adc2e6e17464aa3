-- Pairs that are spread over many sets: what stands in one of them stands in all together, and the other way round.
use Rattle.std.proofs.Common.{◌≡◌, ◌≢◌, ℕ, ◌/◌, ◌%◌, ◌<◌, Bool, true, false, List, [], ◌∷◌, length, get_or, set}
use Rattle.std.proofs.Common.{replicate, min, Option, refl, sym, ap, ◌∙◌, subst, zero, suc, arith, ◌==◌}
use Rattle.std.proofs.lemmas.Bool.{eqb-true, eqb-false}
use Rattle.std.proofs.lemmas.List.{get_or_read, get_or-set_same, get_or-set_other}
use Rattle.gd_base.specs.Stamps.{Stamp}
use Rattle.gd_chunks.specs.Rows.{joined}
use Rattle.gd_history.specs.Indexes.{Has, IsNext, IsClear}
use Rattle.gd_history.specs.Spreading.{set_of, block_end, set_at, IsSpread}
use Rattle.gd_history.proofs.Recent.{Pairs, has-left, has-right, has-either}

-- ---- in one of the sets

pub in_joined : (sets : List Pairs) (i k : ℕ) (s : Stamp) → Has (set_at sets i) k s → Has (joined sets) k s
in_joined [] i k s h = cc
in_joined (x ∷ xs) zero k s h = has-left x (joined xs) k s h
in_joined (x ∷ xs) (suc i) k s h = has-right x (joined xs) k s (in_joined xs i k s h)

from_joined : (sets : List Pairs) (k : ℕ) (s : Stamp) → Has (joined sets) k s → (i : ℕ) × Has (set_at sets i) k s
from_joined [] k s h = cc
from_joined (x ∷ xs) k s h =
    has-either ((i : ℕ) × Has (set_at (x ∷ xs) i) k s) x (joined xs) k s (λ here. (0, here))
    (λ there. let further = from_joined xs k s there in (suc further.0, further.1)) h

-- what stands in any stands in the set of its key
in_its_set : (sets : List Pairs) → IsSpread sets → (k : ℕ) (s : Stamp) → Has (joined sets) k s
    → Has (set_at sets (set_of k)) k s
in_its_set sets spread k s h =
    let found = from_joined sets k s h in
    subst (λ i. Has (set_at sets i) k s) (sym (spread found.0 k s found.1)) found.1

-- ---- sets without pairs

pub none_joined : (n : ℕ) → joined {X = ℕ × Stamp} (replicate n []) ≡ []
none_joined zero = refl
none_joined (suc n) = none_joined n

pub none-spread : (sets : List Pairs) → joined sets ≡ [] → IsSpread sets
none-spread sets none i k s h = cc (subst (λ l. Has l k s) none (in_joined sets i k s h))

-- the keys of a block have one set
same_set : (key k : ℕ) → key < k → k < block_end key → set_of k ≡ set_of key
unfolding set_of block_end
same_set key k above below = let same : k / 32 ≡ key / 32 = omega arith in ap (λ n. n % 251) same

-- ---- one of the sets changes

module _ (sets : List Pairs) (i : ℕ) (new : Pairs) (within : i < length sets) where
  pub there_new : (k : ℕ) (s : Stamp) → Has new k s → Has (joined (set sets i new)) k s
  there_new k s h =
      in_joined (set sets i new) i k s (subst (λ l. Has l k s) (sym (get_or-set_same sets i new [] within)) h)

  there_still : (k : ℕ) (s : Stamp) → (Has (set_at sets i) k s → Has new k s) → (j : ℕ) → Has (set_at sets j) k s
      → (b : Bool) → (j == i) ≡ b → Has (joined (set sets i new)) k s
  there_still k s kept j there true is =
      there_new k s (kept (subst (λ n. Has (set_at sets n) k s) (eqb-true j i is) there))
  there_still k s kept j there false is =
      in_joined (set sets i new) j k s
      (subst (λ l. Has l k s) (sym (get_or-set_other sets i j new [] (eqb-false j i is))) there)

  spread_still : IsSpread sets → (j k : ℕ) (s : Stamp) → (Has new k s → set_of k ≡ i)
      → Has (set_at (set sets i new) j) k s → (b : Bool) → (j == i) ≡ b → set_of k ≡ j
  spread_still spread j k s all h true is =
      let same = eqb-true j i is in
      all (subst (λ l. Has l k s) (get_or-set_same sets i new [] within)
      (subst (λ n. Has (set_at (set sets i new) n) k s) same h)) ∙ sym same
  spread_still spread j k s all h false is =
      spread j k s (subst (λ l. Has l k s) (get_or-set_other sets i j new [] (eqb-false j i is)) h)

  pub kept-one : (x : Pairs) → x ≡ get_or sets i x → (k : ℕ) (s : Stamp) → (Has x k s → Has new k s)
      → Has (joined sets) k s → Has (joined (set sets i new)) k s
  kept-one x read k s kept h =
      let found = from_joined sets k s h in
      there_still k s (λ there. kept (subst (λ l. Has l k s) (sym (get_or_read sets i x within read [])) there)) found.0
      found.1 (found.0 == i) refl

  pub spread-one : IsSpread sets → (x : Pairs) → x ≡ get_or sets i x → ((k : ℕ) (s : Stamp) → Has new k s → Has x k s)
      → IsSpread (set sets i new)
  spread-one spread x read fewer j k s h =
      spread_still spread j k s
      (λ there. spread i k s (subst (λ l. Has l k s) (get_or_read sets i x within read []) (fewer k s there)))
      h (j == i) refl

-- ---- x is the set of the key

module _ (sets : List Pairs) (spread : IsSpread sets) (key i : ℕ) (place : i ≡ set_of key) (within : i < length sets)
    (x : Pairs) (read : x ≡ get_or sets i x) where
  there_in : (k : ℕ) (s : Stamp) → Has x k s → Has (set_at sets i) k s
  there_in k s h = subst (λ l. Has l k s) (get_or_read sets i x within read []) h

  of_key : (k : ℕ) (s : Stamp) → set_of k ≡ set_of key → Has (joined sets) k s → Has x k s
  of_key k s same h =
      subst (λ l. Has l k s) (sym (get_or_read sets i x within read []))
      (subst (λ n. Has (set_at sets n) k s) (same ∙ sym place) (in_its_set sets spread k s h))

  module _ (new : Pairs) where
    of_one : (k : ℕ) (s : Stamp) → (k ≢ key → Has new k s → Has x k s) → Has new k s → (b : Bool) → (k == key) ≡ b
        → set_of k ≡ i
    of_one k s others h true is = ap set_of (eqb-true k key is) ∙ sym place
    of_one k s others h false is = spread i k s (there_in k s (others (eqb-false k key is) h))

    pub spread-more : ((k : ℕ) (s : Stamp) → k ≢ key → Has new k s → Has x k s) → IsSpread (set sets i new)
    spread-more others j k s h =
        spread_still sets i new within spread j k s (λ there. of_one k s (others k s) there (k == key) refl) h (j == i)
        refl

  module _ (floor : Stamp) where
    pub next-spread : (found : Option Stamp) → IsNext x floor found key → IsNext (joined sets) floor found key
    next-spread found next s behind h = next s behind (of_key key s refl h)

    pub clear-spread : (bound high : ℕ) → IsClear x floor key bound → high ≡ min bound (block_end key)
        → IsClear (joined sets) floor key high
    clear-spread bound high clear is k s above below behind h =
        let in_front : k < bound = omega (arith, is, below) in
        let in_block : k < block_end key = omega (arith, is, below) in
        clear k s above in_front behind (of_key k s (same_set key k above in_block) h)
