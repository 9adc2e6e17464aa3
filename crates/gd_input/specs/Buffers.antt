-- Which bytes of a buffer are pending.
use Rattle.std.specs.Prelude.{ℕ, ◌-◌, ◌≤◌, List, take, drop}
use Rattle.gd_input.specs.Cutting.{HasNoLf}
use Rattle.gd_input.specs.declared.reader.TheConstants.{SIZE}

abbrev pub pending : List ℕ → ℕ → ℕ → List ℕ
pending bytes start end = take (end - start) (drop start bytes)

-- so many of the pending bytes were looked at, and have no LF
pub record IsBuffer (bytes : List ℕ) (start end looked : ℕ) : Type 0 where
  pub in_order : start ≤ end
  pub in_bytes : end ≤ SIZE
  pub in_pending : looked ≤ end - start
  pub no_lf : HasNoLf (take looked (pending bytes start end))
