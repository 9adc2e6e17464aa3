-- What is written to the caller's buffers.
use Rattle.std.specs.Prelude.{◌≡◌, ◌<◌, ◌++◌, ℕ, ℤ, pos, List, length, drop, Result, Ok, Err}
use Rattle.gd_embed.specs.declared.answers.Fault.{Fault}
use Rattle.gd_embed.specs.declared.answers.Fault.TheVariants.{Room}

-- the bytes stand at the front of the buffer, and the rest stays; or all of it stays, since there is no room for them
abbrev pub FillIs : List ℕ → List ℕ → Result ℤ Fault → List ℕ → Type 0
FillIs bytes old (Ok count) new = (count ≡ pos (length bytes)) × (new ≡ bytes ++ drop (length bytes) old)
FillIs bytes old (Err Room) new = (length old < length bytes) × (new ≡ old)
FillIs bytes old (Err other) new = ⊥
