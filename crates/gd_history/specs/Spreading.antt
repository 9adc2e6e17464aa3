-- Pairs of a key and a stamp that are spread over many sets, by their keys.
use Rattle.std.specs.Prelude.{◌≡◌, ℕ, ◌+◌, ◌*◌, ◌/◌, ◌%◌, List, [], slice_index_or}
use Rattle.gd_base.specs.Stamps.{Stamp}
use Rattle.gd_history.specs.declared.spread.TheConstants.{SETS, BLOCK}
use Rattle.gd_history.specs.Indexes.{Has}

-- the number of the set that the pairs of a key stand in
unfoldable pub set_of : ℕ → ℕ
set_of k = k / BLOCK % SETS

-- the last key of the block that the key is in
unfoldable pub block_end : ℕ → ℕ
block_end k = k / BLOCK * BLOCK + 31

-- the pairs of set i, or none
abbrev pub set_at : List (List (ℕ × Stamp)) → ℕ → List (ℕ × Stamp)
set_at sets i = slice_index_or sets i []

-- each pair stands in the set of its key
abbrev pub IsSpread : List (List (ℕ × Stamp)) → Type 0
IsSpread sets = (i k : ℕ) (s : Stamp) → Has (set_at sets i) k s → set_of k ≡ i
