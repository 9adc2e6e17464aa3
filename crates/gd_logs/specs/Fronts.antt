-- What reading a log up to its first fault returns.
use Rattle.std.specs.Prelude.{◌≡◌, ◌⊎◌, ℕ, List, [], ◌++◌, Option, None, Some, Ok, Err}
use Rattle.gd_base.specs.Stamps.{Stamp}
use Rattle.gd_events.specs.Events.{EventValue}
use Rattle.gd_grammar.specs.Closing.{gate_place}
use Rattle.gd_grammar.specs.HeaderBytes.{Header, header_at, header_bytes}
use Rattle.gd_grammar.specs.Kinds.{LogKind}
use Rattle.gd_grammar.specs.LogBytes.{LogMisread, gated_bytes, in_log, log, step_at}
use Rattle.gd_grammar.specs.Chains.{no_chains}
use Rattle.gd_logs.specs.Reader.{Reader}
use Rattle.gd_logs.specs.Steps.{IsFault}
use Rattle.gd_logs.specs.Turns.{AreZero}
use Rattle.gd_logs.specs.Written.{IsRuled}
use Rattle.gd_logs.specs.declared.front.FaultAt.{FaultAt}
use Rattle.gd_logs.specs.declared.log.ReadError.{ReadError}
use Rattle.gd_logs.specs.declared.log.ReadError.TheVariants.{Memory, Log}
use Rattle.gd_logs.specs.declared.stopped.LogFault.TheVariants.{Read, Bad}

-- a reader that stands behind the header of a log, and has read no event
pub record Begins {O : Type 0} (IsOp : Stamp → O → Type 0) (kind : LogKind O) (r : Reader) : Type 0 where
  pub ruled : IsRuled IsOp kind r.header []
  pub there : r.place ≡ gate_place kind r.header.version []
  pub fresh : AreZero r.turns
  pub unchained : r.chains ≡ no_chains
  pub on : r.stopped ≡ None

-- the bytes begin with a header and these events, which obey the log's rules, and the step behind them is a fault
pub record StopsBehind {O : Type 0} (IsOp : Stamp → O → Type 0) (kind : LogKind O) (events : List (EventValue O))
    (bytes : List ℕ) : Type 0 where
  pub h : Header
  pub rest : List ℕ
  pub fault : LogMisread
  pub ruled : IsRuled IsOp kind h events
  pub is : bytes ≡ (header_bytes kind h ++ gated_bytes kind h.version [] events) ++ rest
  pub step : step_at kind h events rest ≡ Err fault

-- the header is a fault, and so there are no events
pub record StopsAtHeader {O : Type 0} (kind : LogKind O) (events : List (EventValue O)) (bytes : List ℕ) : Type 0 where
  pub fault : LogMisread
  pub header : in_log (header_at kind bytes) ≡ Err fault
  pub none : events ≡ []

-- these are the events of the log up to its first fault, and this is that fault, if it has one
abbrev pub IsFront : {O : Type 0} → (Stamp → O → Type 0) → LogKind O → List (EventValue O) → Option FaultAt → List ℕ
    → Type 0
IsFront IsOp kind events None bytes = (h : Header) × (log kind bytes ≡ Ok (h, events))
IsFront IsOp kind events (Some fault) bytes =
    IsFault (log kind bytes) bytes fault.at fault.why
    × (StopsBehind IsOp kind events bytes ⊎ StopsAtHeader kind events bytes)

-- reading fails by the source or for want of memory alone
abbrev pub IsNoFault : ReadError → Type 0
IsNoFault Memory = Unit {0}
IsNoFault (Log Read) = Unit {0}
IsNoFault (Log (Bad at why)) = ⊥
