-- What a call keeps of the logs in a journal, whatever comes of it, and whatever the other objects outside tell.
use Rattle.std.specs.Prelude.{◌≡◌, ℕ, List, ◌++◌, Ok, IsSome}
use Rattle.gd_events.specs.Events.{Event}
use Rattle.gd_grammar.specs.Drawings.{log}
use Rattle.gd_grammar.specs.HeaderBytes.{Header}
use Rattle.gd_outside.specs.Disk.{IsImage, LeavesOnly}
use Rattle.gd_outside.specs.Seen.{SeenJournal}
use Rattle.gd_outside.specs.Told.{told}

-- the bytes are a log of this header that begins with these events
pub record IsLogFrom (h : Header) (first : List Event) (bytes : List ℕ) : Type 0 where
  pub more : List Event
  pub read : log bytes ≡ Ok (h, first ++ more)

-- the contents are such a log, and so is whatever a crash now leaves
pub record HoldsLog (h : Header) (first : List Event) (journal : SeenJournal) : Type 0 where
  pub contents : IsLogFrom h first (told journal.contents)
  pub images : (image : List ℕ) → IsImage journal.disk.now image → IsLogFrom h first image

-- so it is still, and so was whatever a crash might have left on the way
pub record LogStays (h : Header) (first : List Event) (old new : SeenJournal) : Type 0 where
  pub holds : HoldsLog h first new
  pub moments : LeavesOnly old.disk new.disk (IsLogFrom h first)

-- Where the journal is told, and held a log of some header that begins with some events, it holds one still.
pub record KeepsLogs (old new : SeenJournal) : Type 0 where
  pub was : IsSome new.contents → IsSome old.contents
  pub stays : IsSome new.contents → (h : Header) (first : List Event)
      → HoldsLog h first old → LogStays h first old new
