-- Numbers that are kept as sums: of what their block counts, and of an offset each.
use Rattle.gd_chunks.specs.declared.starts.TheConstants.{BLOCK}
use Rattle.std.specs.Prelude.{◌≡◌, ℕ, ◌+◌, ◌*◌, ◌/◌, ◌^◌, ◌<◌, ◌≤◌, List, length, map, slice_index}
use Rattle.std.specs.List.{range_with_len}

-- what the block of number k counts, and its offset
abbrev pub sum_at : List ℕ → List ℕ → ℕ → ℕ
sum_at blocks offsets k = slice_index blocks (k / BLOCK) + slice_index offsets k

-- the numbers, one for each offset
unfoldable pub summed : List ℕ → List ℕ → List ℕ
summed blocks offsets = map (sum_at blocks offsets) (range_with_len 0 (length offsets))

-- there are as many blocks as the offsets need, and each number fits
pub record AreSummed (blocks offsets : List ℕ) : Type 0 where
  pub enough : length offsets ≤ BLOCK * length blocks
  pub few : BLOCK * length blocks < length offsets + BLOCK
  pub fit : (k : ℕ) → k < length offsets → sum_at blocks offsets k < 2 ^ 64

-- the numbers from place `from` up to place `to` are one more than before, and the others are as they were
pub record AreRaised (old new : List ℕ) (from to : ℕ) : Type 0 where
  pub long : length new ≡ length old
  pub before : (k : ℕ) → k < from → slice_index new k ≡ slice_index old k
  pub between : (k : ℕ) → from ≤ k → k < to → slice_index new k ≡ slice_index old k + 1
  pub behind : (k : ℕ) → to ≤ k → slice_index new k ≡ slice_index old k

-- what contracts see of starts: the numbers, and how many more are sure to fit without memory
pub record StartsValue : Type 0 where
  pub items : List ℕ
  pub room : ℕ
