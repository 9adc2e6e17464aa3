-- What reading a snapshot from a source returns.
use Rattle.std.specs.Prelude.{◌≡◌, ◌≤◌, ℕ, List, ◌++◌, length, Option, Result, Ok, Err, IsSome}
use Rattle.gd_base.specs.declared.fault.ViewWhy.{ViewWhy}
use Rattle.gd_base.specs.declared.fault.ViewWhy.TheVariants.{Short}
use Rattle.gd_grammar.specs.Reading.{place}
use Rattle.gd_outside.specs.Told.{told, HandsOut}
use Rattle.gd_snapshots.specs.SnapshotBytes.{Views, snapshot_at}
use Rattle.gd_snapshots.specs.Snapshots.{Snapshot}
use Rattle.gd_handover.specs.declared.fault.SnapshotFault.{SnapshotFault}
use Rattle.gd_handover.specs.declared.fault.SnapshotFault.TheVariants.{Read, Bad, NoMemory}

-- reading these bytes gives a fault for this reason, at this place in them
pub record IsMisread {A : Type 0} (read : Views A) (bytes : List ℕ) (at : ℕ) (why : ViewWhy) : Type 0 where
  pub left : ℕ
  pub is : read ≡ Err (record { why = why; left = left })
  pub inside : left ≤ length bytes
  pub there : at ≡ place bytes left

-- Of these bytes, which a source has, the snapshot at their front was taken and no byte more; or they have that fault.
abbrev pub SnapshotIs : Result Snapshot SnapshotFault → List ℕ → List ℕ → Type 0
SnapshotIs (Ok s) all left = snapshot_at all ≡ Ok (s, left)
SnapshotIs (Err Read) all left = Unit {0}
SnapshotIs (Err (Bad at why)) all left = IsMisread (snapshot_at all) all at why
SnapshotIs (Err NoMemory) all left = Unit {0}

-- The bytes that were taken end within the snapshot, and have no fault before their end.
pub record EndsWithin (old new : Option (List ℕ)) : Type 0 where
  pub taken : List ℕ
  pub handed : HandsOut old taken new
  pub within : snapshot_at taken ≡ Err (record { why = Short; left = 0 })

-- ---- a snapshot and what follows it

-- The bytes that were taken, so many, are the snapshot, whatever follows them.
pub record IsFront (s : Snapshot) (count : ℕ) (old new : Option (List ℕ)) : Type 0 where
  pub taken : List ℕ
  pub handed : HandsOut old taken new
  pub is : (more : List ℕ) → snapshot_at (taken ++ more) ≡ Ok (s, more)
  pub long : length taken ≡ count

-- the snapshot at the front and its length; or the first fault of the bytes, where they are told
abbrev pub FrontIs : Result (Snapshot × ℕ) SnapshotFault → Option (List ℕ) → Option (List ℕ) → Type 0
FrontIs (Ok x) old new = IsFront x.0 x.1 old new
FrontIs (Err Read) old new = EndsWithin old new
FrontIs (Err (Bad at why)) old new = IsSome new → IsMisread (snapshot_at (told old)) (told old) at why
FrontIs (Err NoMemory) old new = Unit {0}
