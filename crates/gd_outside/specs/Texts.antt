-- Texts that stand one behind another in one buffer.
use Rattle.std.specs.Prelude.{◌≡◌, ℕ, ◌+◌, ◌-◌, ◌≤◌, List, length, map, take, drop, sum_by}
use Rattle.std.specs.List.{AllByRecursion as Every}
use Rattle.gd_outside.specs.declared.memory.texts.Span.{Span}

-- what texts take of a room: the bytes of each, and one more for each
abbrev pub texts_size : List (List ℕ) → ℕ
texts_size texts = sum_by (λ text. length text + 1) texts

-- the texts that are kept, and the room for them
pub record KeptTexts : Type 0 where
  pub texts : List (List ℕ)
  pub room : ℕ

-- the text of a span of the buffer's bytes
abbrev pub text_at : List ℕ → Span → List ℕ
text_at bytes span = take (span.end - span.start) (drop span.start bytes)

abbrev pub IsWithin : List ℕ → Span → Type 0
IsWithin bytes span = (span.start ≤ span.end) × (span.end ≤ length bytes)

-- each span is one of the bytes, and the texts take what is used of the room
pub record Stand (bytes : List ℕ) (spans : List Span) (room : ℕ) : Type 0 where
  pub within : Every (IsWithin bytes) spans
  pub size : texts_size (map (text_at bytes) spans) ≡ length bytes + length spans
  pub fits : length bytes + length spans ≤ room
