-- Calls that put a member into a handle.
use Rattle.std.specs.declared.alloc.Global.{Global}
use Rattle.std.specs.Prelude.{◌≡◌, Box, ◌<◌, ◌≤◌, ℕ, ℤ, pos, List, [], ◌∷◌, Option, Some, None, Result, Ok, Err, length}
use Rattle.std.specs.Option.{is_some}
use Rattle.gd_base.specs.declared.ranges.TheConstants.{SITES}
use Rattle.gd_base.specs.declared.fault.LogWhy.{LogWhy}
use Rattle.gd_embed.specs.Codes.{coded}
use Rattle.gd_embed.specs.Telling.{Buffer, Writes}
use Rattle.gd_embed.specs.declared.answers.Fault.{Fault}
use Rattle.gd_embed.specs.declared.answers.Fault.TheVariants as fault
use Rattle.gd_embed.specs.declared.held.Held.{Held}
use Rattle.gd_events.specs.Events.{Event}
use Rattle.gd_grammar.specs.HeaderBytes.{Header}
use Rattle.gd_lines.specs.Replies.{reply_text}
use Rattle.gd_lines.specs.declared.reply.Reply.TheVariants as reply
use Rattle.gd_member.specs.Members.{MemberValue}
use Rattle.gd_member.specs.Standing.{Stands}
use Rattle.gd_reference.specs.Rejoin as rejoin
use Rattle.gd_reference.specs.Rejoin.{Found, found, node_header}
use Rattle.gd_reference.specs.SlowSite.{SlowSite, new_site, resumed}

-- a site of a session of so many
pub record IsPlace (me sites : ℕ) : Type 0 where
  pub from : 1 ≤ me
  pub to : me ≤ sites
  pub few : sites ≤ SITES

-- a member stands for this site, its journal has these events, and nothing is said yet
abbrev pub Begins : SlowSite → List Event → Held → Type 0
Begins slow written held = Stands slow written held.member × (held.said ≡ [])

-- a member in a box, which has said nothing, or memory ran out
abbrev pub BoxedIs : MemberValue → Result (Box Held Global) Fault → Type 0
BoxedIs member (Ok held) = (held.value.member ≡ member) × (held.value.said ≡ [])
BoxedIs member (Err fault.NoMemory) = Unit {0}
BoxedIs member (Err other) = ⊥

-- a new member
abbrev pub NewIs : ℕ → ℕ → ℕ → Result (Box Held Global) Fault → Type 0
NewIs me sites session (Ok held) = IsPlace me sites × Begins (new_site me sites session) [] held.value
NewIs me sites session (Err fault.NoSite) = IsPlace me sites → ⊥
NewIs me sites session (Err fault.NoMemory) = Unit {0}
NewIs me sites session (Err other) = ⊥

-- a member that goes on from the events that are found
abbrev pub OpenedIs : ℕ → ℕ → ℕ → Found → Held → Type 0
OpenedIs me sites session there held =
    (events : List Event) × ((there ≡ rejoin.Events events) × Begins (resumed me sites session events) events held)

-- the line of a fault is written to a buffer, where that has room
abbrev pub IsTold : ℕ → LogWhy → Buffer → Type 0
IsTold at why buffer =
    (r : Result ℤ Fault) × Writes (reply_text (reply.BadLog at why)) buffer r

abbrev pub IsToldOf : Found → Buffer → Type 0
IsToldOf (rejoin.Faulty at why) buffer = IsTold at why buffer
IsToldOf other buffer = ⊥

-- the same, or why there is no going on from a journal, whose first fault is told in a buffer, where that has room
abbrev pub OpenIs : ℕ → ℕ → ℕ → List ℕ → Buffer → Result (Box Held Global) Fault → Type 0
OpenIs me sites session journal buffer (Ok held) =
    IsPlace me sites × (OpenedIs me sites session (found (node_header me sites session) journal) held.value
    × (buffer.new ≡ buffer.old))
OpenIs me sites session journal buffer (Err fault.BadJournal) =
    IsToldOf (found (node_header me sites session) journal) buffer
OpenIs me sites session journal buffer (Err fault.OtherJournal) =
    ((other : Header) × (found (node_header me sites session) journal ≡ rejoin.Other other)) × (buffer.new ≡ buffer.old)
OpenIs me sites session journal buffer (Err fault.NoSite) = (IsPlace me sites → ⊥) × (buffer.new ≡ buffer.old)
OpenIs me sites session journal buffer (Err fault.NoMemory) = buffer.new ≡ buffer.old
OpenIs me sites session journal buffer (Err other) = ⊥

abbrev pub done_of : Result (Box Held Global) Fault → Result ℤ Fault
done_of (Ok held) = Ok (pos 0)
done_of (Err why) = Err why

abbrev pub held_of : Result (Box Held Global) Fault → Option Held
held_of (Ok held) = Some held.value
held_of (Err why) = None

-- A handle that isn't empty says so, and all stays, `quiet` besides. Into an empty one is put what there is to be put.
pub record Puts (quiet : Type 0) (P : Result (Box Held Global) Fault → Type 0) (old : Option Held) (answer : ℤ)
    (new : Option Held) : Type 0 where
  pub occupied : (held : Held) → old ≡ Some held → (answer ≡ coded (Err fault.Occupied)) × ((new ≡ old) × quiet)
  pub empty : old ≡ None
      → (r : Result (Box Held Global) Fault) × (P r × ((answer ≡ coded (done_of r)) × (new ≡ held_of r)))
