-- Numbers as they are written on a command line: 1 to 20 decimal digits, of which the first may be 0.
use Rattle.std.specs.Prelude.{ℕ, Bool, List, length, nat_le, nat_lt, ◌&&◌, Option, Some, None, if◌then◌else◌}
use Rattle.std.specs.List.{list_all}
use Rattle.std.specs.Str.Parse.{digits_value}

abbrev pub is_digit : ℕ → Bool
is_digit b = nat_le 48 b && nat_le b 57

abbrev pub is_number : List ℕ → Bool
is_number text = nat_lt 0 (length text) && (nat_le (length text) 20 && list_all is_digit text)

abbrev pub number_in : List ℕ → Option ℕ
number_in text = if is_number text then Some (digits_value 10 text) else None

-- the same, where it is in a range
abbrev pub ranged : ℕ → ℕ → Option ℕ → Option ℕ
ranged low high None = None
ranged low high (Some n) = if nat_le low n && nat_le n high then Some n else None

abbrev pub number_from : ℕ → ℕ → List ℕ → Option ℕ
number_from low high text = ranged low high (number_in text)
