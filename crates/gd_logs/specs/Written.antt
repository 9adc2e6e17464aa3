-- Logs as they are written.
use Rattle.std.specs.Prelude.{◌≡◌, ℕ, ◌<◌, ◌^◌, List, [], ◌∷◌, ◌++◌, true, Some, None}
use Rattle.gd_base.specs.declared.fault.LogWhy.{LogWhy}
use Rattle.gd_base.specs.Stamps.{Stamp}
use Rattle.gd_effects.specs.Crashes.{Adds, AddsTorn, Stands}
use Rattle.gd_events.specs.Events.{EventValue}
use Rattle.gd_grammar.specs.Chains.{AreChains}
use Rattle.gd_grammar.specs.Closing.{gate_place}
use Rattle.gd_grammar.specs.Kinds.{LogKind, FitsIn}
use Rattle.gd_grammar.specs.HeaderBytes.{Header, IsHeader}
use Rattle.gd_grammar.specs.LogBytes.{LogMisread, gated_bytes, left_of, record_bytes, turn_fault}
use Rattle.gd_grammar.specs.Versions.{has_version}
use Rattle.gd_outside.specs.Seen.{SeenJournal}

-- each event is sound, can be spelled in the header's version, and is the next one behind these and those before it
unfoldable pub AreNext : {O : Type 0} → (Stamp → O → Type 0) → LogKind O → Header → List (EventValue O)
    → List (EventValue O) → Type 0
AreNext IsOp kind h seen [] = Unit {0}
AreNext IsOp kind h seen (e ∷ es) =
    FitsIn IsOp kind h.version e × (turn_fault h.n seen e ≡ None) × AreNext IsOp kind h (seen ++ e ∷ []) es

-- the header and the events obey the log's rules
pub record IsRuled {O : Type 0} (IsOp : Stamp → O → Type 0) (kind : LogKind O) (h : Header)
    (events : List (EventValue O)) : Type 0 where
  pub header : IsHeader h
  pub session : h.session < 2 ^ 32
  pub version : has_version kind.newest h.version ≡ true
  pub next : AreNext IsOp kind h [] events

-- an event that fits isn't the next one behind these events, for this reason
pub record BreaksRule {O : Type 0} (IsOp : Stamp → O → Type 0) (kind : LogKind O) (h : Header)
    (events : List (EventValue O)) (e : EventValue O) (why : LogWhy) : Type 0 where
  pub fits : FitsIn IsOp kind h.version e
  pub broken : turn_fault h.n events e ≡ Some why

-- a fault with `left` bytes from its place on
abbrev pub fault_by : LogWhy → ℕ → LogMisread
fault_by why left = record { why = why; left = left }

-- the fault of an event that isn't the next one, with `left` bytes from its first byte on
abbrev pub refusal : LogWhy → ℕ → LogMisread
refusal why left = fault_by why (left_of why left)

-- ---- a writer, which writes in the newest version of its kind

-- the place of the log's closing gate, and for each site the check of its events
pub record Writer : Type 0 where
  pub place : ℕ
  pub chains : List ℕ

-- the bytes of events that are added together, each behind an open gate, and for each site the check of its events with
-- them
pub record Records : Type 0 where
  pub bytes : List ℕ
  pub chains : List ℕ

-- they are those of these events, behind those that were seen
pub record AreRecords {O : Type 0} (kind : LogKind O) (seen events : List (EventValue O))
    (records : Records) : Type 0 where
  pub spelled : records.bytes ≡ gated_bytes kind kind.newest seen events
  pub chained : AreChains kind records.chains (seen ++ events)

-- a log of some header and events stands in the journal, and its closing gate at that place
abbrev pub IsStanding : {O : Type 0} → LogKind O → ℕ → SeenJournal → Type 0
IsStanding {O} kind place journal =
    (h : Header) × (events : List (EventValue O)) × Stands kind h events journal
    × (place ≡ gate_place kind h.version events)

-- These events, one or more, were added together to a log of the newest version that stood in the journal before, of
-- those that were seen, where they obey that log's rules.
abbrev pub AddsEvents : {O : Type 0} → (Stamp → O → Type 0) → LogKind O → List (EventValue O) → List (EventValue O)
    → SeenJournal → SeenJournal → Type 0
AddsEvents {O} IsOp kind seen es old new =
    (h : Header) → h.version ≡ kind.newest → IsRuled IsOp kind h (seen ++ es) → Stands kind h seen old
    → Adds kind h seen (es ∷ []) old new

-- The same, but they may have been added, all of them, or not.
abbrev pub MayAddEvents : {O : Type 0} → (Stamp → O → Type 0) → LogKind O → List (EventValue O) → List (EventValue O)
    → SeenJournal → SeenJournal → Type 0
MayAddEvents {O} IsOp kind seen es old new =
    (h : Header) → h.version ≡ kind.newest → IsRuled IsOp kind h (seen ++ es) → Stands kind h seen old
    → AddsTorn kind h seen [] (es ∷ []) old new

-- The piece that is put behind the closing gate of a log of these events: the first one more, the others, each behind
-- an open gate, and a closed gate. Once that closing gate is opened, all of them are events of the log.
abbrev pub IsPiece : {O : Type 0} → LogKind O → List (EventValue O) → EventValue O → List (EventValue O) → List ℕ
    → Type 0
IsPiece kind seen e es piece =
    piece ≡ (record_bytes kind kind.newest seen e ++ gated_bytes kind kind.newest (seen ++ e ∷ []) es) ++ 0 ∷ []
