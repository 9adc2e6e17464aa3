-- Reading on for a piece of a snapshot, of which the bytes ahead aren't all, and what kept events are judged by.
use Rattle.std.specs.Prelude.{◌≡◌, ◌<◌, ◌≤◌, ⊤, ℕ, ◌+◌, max, if◌then◌else◌, List, [], length, Option, None, Some}
use Rattle.std.specs.Prelude.{Result, Ok, Err, IsSome}
use Rattle.gd_base.specs.Stamps.{Stamp}
use Rattle.gd_base.specs.declared.fault.FieldFault.{FieldFault}
use Rattle.gd_base.specs.declared.fault.FieldWhy.TheVariants.{Short}
use Rattle.gd_base.specs.declared.fault.ViewWhy.{ViewWhy}
use Rattle.gd_base.specs.declared.fault.ViewWhy.TheVariants.{Order, Bound}
use Rattle.gd_events.specs.Events.{Event}
use Rattle.gd_events.specs.Sound.{is_above}
use Rattle.gd_grammar.specs.Reading.{place}
use Rattle.gd_outside.specs.Seen.{SeenSource}
use Rattle.gd_outside.specs.Told.{told}
use Rattle.gd_snapshots.specs.SnapshotBytes.{view_why}
use Rattle.gd_snapshots.specs.Snapshots.{is_bounded}
use Rattle.gd_snapshots.specs.declared.known.Known.{Known}
use Rattle.gd_handover.specs.Parts.{Grown}
use Rattle.gd_handover.specs.declared.fault.SnapshotFault.{SnapshotFault}
use Rattle.gd_handover.specs.declared.fault.SnapshotFault.TheVariants.{Read, Bad, NoMemory}
use Rattle.gd_handover.specs.declared.reader.Reader.{Reader}

-- More bytes are ahead: no more than `least`, or one more than there were.
pub record CameMore (fault : FieldFault) (least : ℕ) (old new : Reader) : Type 0 where
  pub short : fault.why ≡ Short
  pub longer : length old.ahead < length new.ahead
  pub few : length new.ahead ≤ max least (length old.ahead + 1)

-- The fault of the bytes ahead stands, whatever the source has left.
pub record Settled (fault : FieldFault) (old : Reader) (at : ℕ) (why : ViewWhy)
    (after : SeenSource) : Type 0 where
  pub because : why ≡ view_why fault.why
  pub there : at ≡ old.place + place old.ahead fault.left
  pub end : fault.why ≡ Short → IsSome after.left → told after.left ≡ []

abbrev pub OnIs : FieldFault → ℕ → Result ⊤ SnapshotFault → Reader → Reader → SeenSource → Type 0
OnIs fault least (Ok done) old new after = CameMore fault least old new
OnIs fault least (Err Read) old new after = (fault.why ≡ Short) × (new.ahead ≡ old.ahead)
OnIs fault least (Err (Bad at why)) old new after = Settled fault old at why after × (new.ahead ≡ old.ahead)
OnIs fault least (Err NoMemory) old new after = ⊥

-- what reading on returns, and leaves of the bytes ahead and of the source
pub record GoesOn (fault : FieldFault) (least : ℕ) (result : Result ⊤ SnapshotFault)
    (old new : Reader) (before after : SeenSource) : Type 0 where
  pub grown : Grown old.ahead new.ahead before after (result ≡ Err Read)
  pub place : new.place ≡ old.place
  pub is : OnIs fault least result old new after

-- why an event isn't a kept one behind that last one, if it isn't
abbrev pub kept_fault : List Known → Option Stamp → Event → Option ViewWhy
kept_fault known last e =
    if is_above last e.stamp then (if is_bounded known e then None else Some Bound)
    else Some Order
