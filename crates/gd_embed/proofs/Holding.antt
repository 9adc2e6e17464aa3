-- A slot that says that it holds something does.
use Rattle.std.proofs.Common.{rules, ◌≡◌, None, Some, Option, Bool, true, false, refl}
use Rattle.std.specs.Option.{is_some}
use Rattle.gd_embed.specs.declared.held.Held.{Held as HeldValue}
use Rattle.gd_embed.specs.Live.{IsLive}

pub live_by : (v : Option HeldValue) (b : Bool) → is_some v ≡ b → b ≡ true → IsLive v
live_by (Some x) b e h = (x, refl)
live_by None b e h = grind (rules)
