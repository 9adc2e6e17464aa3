-- Where the first line of bytes ends.
use Rattle.std.specs.Prelude.{ℕ, Bool, List, ◌==◌}
use Rattle.std.specs.List.{position_or_len}
use Rattle.gd_reference.specs.InputLines.{lf}

abbrev pub is_lf : ℕ → Bool
is_lf byte = byte == lf

-- at the first line feed, or at the end where there is none
abbrev pub line_end : List ℕ → ℕ
line_end bytes = position_or_len is_lf bytes
