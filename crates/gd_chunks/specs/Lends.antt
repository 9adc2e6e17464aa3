-- What a row and a list in rows end as, where a `&mut` to one of their elements is returned.
use Rattle.std.specs.Prelude.{ℕ, List, slice_set}
use Rattle.std.specs.Borrow.{Lends, Fml, RattleType, MutBor}
use Rattle.gd_chunks.specs.Rows.{ChunksValue}
use Rattle.gd_chunks.specs.contracts.row.Row.{the_row as row_of}
use Rattle.gd_chunks.specs.contracts.chunks.Chunks.{the_row as chunks_of}

-- the list with another element at the index
abbrev pub with_element : {X : Type 0} → ChunksValue X → ℕ → X → ChunksValue X
with_element c i x = record { items = slice_set c.items i x; spare = c.spare }

-- once the borrow r ends, the row has the last value written through r at the index
abbrev pub lends_column : (T : RattleType) → MutBor (List T.Denot) → ℕ → MutBor T.Denot → Fml
lends_column T row i r = Lends (row_of T) T row r (slice_set row.now i)

-- once the borrow r ends, the list has the last value written through r at the index
abbrev pub lends_element : (T : RattleType) → MutBor (ChunksValue T.Denot) → ℕ → MutBor T.Denot → Fml
lends_element T c i r = Lends (chunks_of T) T c r (with_element c.now i)
