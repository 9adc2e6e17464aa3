-- What a call comes to, by what there is to be called.
use Rattle.std.specs.declared.alloc.Global.{Global}
use Rattle.std.specs.Prelude.{◌≡◌, true, Box, ℤ, List, Option, Some, None, Result, Ok, Err}
use Rattle.gd_embed.specs.Codes.{coded}
use Rattle.gd_embed.specs.declared.answers.Fault.{Fault}
use Rattle.gd_embed.specs.declared.answers.Fault.TheVariants.{Empty, Spent}
use Rattle.gd_embed.specs.declared.held.Held.{Held}
use Rattle.gd_events.specs.Events.{Event}
use Rattle.gd_member.specs.Members.{IsLive}
use Rattle.gd_member.specs.Standing.{Stands}
use Rattle.gd_reference.specs.SlowSite.{SlowSite}

-- a call of what stands for a reference site, of whose events the journal has these: what it answers, and what then is
-- there
abbrev pub Call : Type 1
Call = SlowSite → List Event → Held → Result ℤ Fault → Held → Type 0

-- it is a call of whatever reference site the member stands for
abbrev pub Calls : Call → Held → Result ℤ Fault → Held → Type 0
Calls P old r new = (slow : SlowSite) (written : List Event) → Stands slow written old.member → P slow written old r new

-- Of a handle that is empty, and of a member that is spent, it answers that alone; all stays as it was, `quiet`
-- besides. Else it is a call of the member.
pub record Answers (quiet : Type 0) (P : Call) (old : Option Held) (answer : ℤ) (new : Option Held) : Type 0 where
  pub empty : old ≡ None → (answer ≡ coded (Err Empty)) × ((new ≡ None) × quiet)
  pub spent : (held : Held) → old ≡ Some held → held.member.spent ≡ true
      → (answer ≡ coded (Err Spent)) × ((new ≡ old) × quiet)
  pub live : (held : Held) → old ≡ Some held → IsLive held.member
      → (r : Result ℤ Fault) × (answer ≡ coded r) × (later : Held) × (new ≡ Some later) × Calls P held r later

-- what is lent of a handle: its member, where it isn't spent, and then the handle is empty
abbrev pub LentIs : Option Held → Result (Box Held Global) Fault → Option Held → Type 0
LentIs old (Ok held) new = (old ≡ Some held.value) × (IsLive held.value.member × (new ≡ None))
LentIs old (Err Empty) new = (old ≡ None) × (new ≡ None)
LentIs old (Err Spent) new = (held : Held) × (old ≡ Some held) × ((held.member.spent ≡ true) × (new ≡ old))
LentIs old (Err other) new = ⊥
