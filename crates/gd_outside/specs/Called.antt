-- What comes together at each call on an object outside: what isn't told before it isn't told after it, the object's
-- count of faults doesn't fall, and a failure has its cause. The clock of a journal's disk doesn't fall either.
use Rattle.std.specs.Prelude.{◌≡◌, ℕ, ◌≤◌, List, IsSome}
use Rattle.gd_outside.specs.Causes.{Rose}
use Rattle.gd_outside.specs.Disk.{clock}
use Rattle.gd_outside.specs.Seen.{SeenSource, SeenSink, SeenJournal}
use Rattle.gd_outside.specs.Told.{HandsOut, Stays}

pub record SourceCalled (old new : SeenSource) (failed : Type 0) : Type 0 where
  -- the bytes that were taken
  pub taken : List ℕ
  pub handed : HandsOut old.left taken new.left
  pub count : old.faults ≤ new.faults
  pub cause : failed → Rose old.faults new.faults

pub record SinkCalled (old new : SeenSink) (failed : Type 0) : Type 0 where
  pub was : IsSome new.bytes → IsSome old.bytes
  pub count : old.faults ≤ new.faults
  pub cause : failed → Rose old.faults new.faults

pub record JournalCalled (old new : SeenJournal) (failed : Type 0) : Type 0 where
  pub was : IsSome new.contents → IsSome old.contents
  pub name_was : IsSome new.name → IsSome old.name
  pub time : clock old.disk ≤ clock new.disk
  pub count : old.faults ≤ new.faults
  pub cause : failed → Rose old.faults new.faults

-- the contents, and what a crash may leave of them, are as they were
pub record ContentsStay (old new : SeenJournal) : Type 0 where
  pub contents : Stays old.contents new.contents
  pub images : IsSome new.contents → new.disk ≡ old.disk
