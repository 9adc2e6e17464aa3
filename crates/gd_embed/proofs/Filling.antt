-- What is written to a buffer is bytes that are known by another name.
use Rattle.std.proofs.Common.{◌≡◌, ◌∙◌, ℕ, ℤ, List, ap, length, subst}
use Rattle.std.specs.Prelude.{Result}
use Rattle.gd_embed.specs.Buffers.{FillIs}
use Rattle.gd_embed.specs.Telling.{Writes}
use Rattle.gd_embed.specs.declared.answers.Fault.{Fault}

pub writes_as : (old new : List ℕ) {bytes there : List ℕ} {needed : ℕ} (r : Result ℤ Fault) → there ≡ bytes
    → FillIs there old r new → needed ≡ length there
    → Writes bytes (record { old = old; new = new; needed = needed }) r
writes_as old new {bytes} {there} {needed} r same fills counted =
    (subst (λ (l : List ℕ). FillIs l old r new) same fills, counted ∙ ap length same)
