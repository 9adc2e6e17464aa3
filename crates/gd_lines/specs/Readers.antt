-- Readings one behind the other as steps.
use Rattle.gd_lines.specs.Reading.{Reader, then_at}

infixl 10 ◌>>=◌
abbrev pub ◌>>=◌ : {A B : Type 0} → Reader A → (A → Reader B) → Reader B
r >>= f = then_at r f
