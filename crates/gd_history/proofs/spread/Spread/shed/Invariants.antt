use Rattle.std.proofs.Common.{◌≡◌, ℕ, ◌<◌, length}
use Rattle.gd_base.specs.Stamps.{Stamp}
use Rattle.gd_chunks.specs.Rows.{joined}
use Rattle.gd_history.specs.Indexes.{Has}
use Rattle.gd_history.specs.Spreading.{IsSpread}
use Rattle.gd_history.specs.declared.spread.TheConstants.{SETS}
use Rattle.gd_history.proofs.spread.Spread.shed.Given as goal

abbrev pub invariant-loop-at : goal.invariant-loop-at
invariant-loop-at l = record {
  kept : (k : ℕ) (s : Stamp) → l.line < s.clock → Has l.fn.self k s → Has (joined l.self-inside.sets.items) k s;
  whole : 0 < length l.self-inside.sets.items → length l.self-inside.sets.items ≡ SETS;
  spread : IsSpread l.self-inside.sets.items;
}
