-- What reading a part of a snapshot returns, against the part's definition, and what it leaves of the bytes
-- ahead and of the source.
use Rattle.std.specs.Prelude.{◌≡◌, ◌≤◌, ℕ, ◌+◌, List, ◌++◌, length, Option, Result, Ok, Err, IsSome}
use Rattle.gd_base.specs.declared.fault.ViewWhy.{ViewWhy}
use Rattle.gd_base.specs.declared.fault.ViewWhy.TheVariants.{Short}
use Rattle.gd_grammar.specs.FieldBytes.{AreBytes}
use Rattle.gd_outside.specs.Called.{SourceCalled}
use Rattle.gd_outside.specs.Seen.{SeenSource}
use Rattle.gd_outside.specs.Told.{told}
use Rattle.gd_snapshots.specs.SnapshotBytes.{SnapshotMisread, Views}
use Rattle.gd_handover.specs.Reading.{IsMisread}
use Rattle.gd_handover.specs.declared.fault.SnapshotFault.{SnapshotFault}
use Rattle.gd_handover.specs.declared.fault.SnapshotFault.TheVariants.{Read, Bad, NoMemory}
use Rattle.gd_handover.specs.declared.reader.Reader.{Reader}

-- what was taken from the source stands behind what was ahead
pub record Grown (old new : List ℕ) (before after : SeenSource) (failed : Type 0) : Type 0 where
  pub called : SourceCalled before after failed
  pub is : new ≡ old ++ called.taken

-- the bytes end within what is read
abbrev pub cut : SnapshotMisread
cut = record { why = Short; left = 0 }

-- The part was read off the bytes that were ahead and those that were taken, whatever follows them.
pub record IsRead {A : Type 0} (read : List ℕ → Views A) (x : A)
    (old new : Reader) (taken : List ℕ) : Type 0 where
  pub is : (more : List ℕ) → read (old.ahead ++ (taken ++ more)) ≡ Ok (x, new.ahead ++ more)
  pub are : AreBytes taken
  pub forward : old.place ≤ new.place
  pub moved : new.place + length new.ahead ≡ old.place + length (old.ahead ++ taken)

-- These are all bytes from the part's first on, and reading the part of them gives this fault.
pub record IsBad {A : Type 0} (read : List ℕ → Views A) (old : Reader)
    (all : List ℕ) (at : ℕ) (why : ViewWhy) : Type 0 where
  pub within : ℕ
  pub misread : IsMisread (read all) all within why
  pub there : at ≡ old.place + within

abbrev pub PartIs : {A : Type 0} → (List ℕ → Views A) → Result A SnapshotFault
    → Reader → Reader → List ℕ → Option (List ℕ) → Type 0
PartIs read (Ok x) old new taken left = IsRead read x old new taken
PartIs read (Err Read) old new taken left = read (old.ahead ++ taken) ≡ Err cut
PartIs read (Err (Bad at why)) old new taken left =
    IsSome left → IsBad read old (old.ahead ++ (taken ++ told left)) at why
PartIs read (Err NoMemory) old new taken left = Unit {0}

-- The result is what this definition gives of the bytes that were ahead, those that were taken and those that are
-- left. Where a read failed, the first two end within what it reads.
pub record Part {A : Type 0} (read : List ℕ → Views A) (result : Result A SnapshotFault)
    (old new : Reader) (before after : SeenSource) : Type 0 where
  pub called : SourceCalled before after (result ≡ Err Read)
  pub is : PartIs read result old new called.taken after.left
