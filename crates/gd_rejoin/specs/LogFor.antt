-- The log that a node goes on from.
use Rattle.std.specs.Prelude.{◌≡◌, ℕ, ◌^◌, ◌≤◌, List}
use Rattle.gd_events.specs.Events.{Event}
use Rattle.gd_events.specs.Sound.{IsOp}
use Rattle.gd_grammar.specs.Chains.{AreChains}
use Rattle.gd_grammar.specs.Closing.{Closes, gate_place}
use Rattle.gd_grammar.specs.Drawings.{drawings}
use Rattle.gd_grammar.specs.HeaderBytes.{Header}
use Rattle.gd_logs.specs.Written.{IsRuled}

-- A log of that header and these events was read, its closing gate stands at that place, and these are the checks of
-- its events. Where `told` holds, the contents are that log.
pub record IsLogFor (header : Header) (events : List Event) (place : ℕ) (chains : List ℕ) (told : Type 0)
    (contents : List ℕ) : Type 0 where
  pub ruled : IsRuled IsOp drawings header events
  pub closes : told → Closes drawings header events contents
  pub gate : place ≡ gate_place drawings header.version events
  pub chained : AreChains drawings chains events
  pub near : place ≤ 2 ^ 31
