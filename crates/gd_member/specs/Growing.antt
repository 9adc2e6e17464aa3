-- An output in memory that grows.
use Rattle.std.specs.Prelude.{ℕ, List, Some}
use Rattle.gd_outside.specs.Seen.{SeenSink}

-- the bytes that were written, and how often memory ran out
pub record Grown : Type 0 where
  pub bytes : List ℕ
  pub faults : ℕ

abbrev pub seen_grown : Grown → SeenSink
seen_grown g = record { bytes = Some g.bytes; faults = g.faults }
