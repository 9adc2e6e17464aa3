-- What a crash may leave of a journal's contents. A disk has a clock, which counts the calls that changed what a crash
-- may leave, and for each moment of it the images that a crash at that moment may leave.
use Rattle.std.specs.Prelude.{◌≡◌, ◌≤◌, ◌+◌, ℕ, min, List, [], ◌∷◌, ◌++◌, length, take, drop, ◌⊎◌}
use Rattle.gd_outside.specs.Journals.{IsWholeByte}

-- The images after a call: any contents, after a create; these contents alone, after a sync that succeeded; and after a
-- write of a piece at a place, those before it with any bytes in its range and past their end, or whole, where the
-- piece is one byte.
pub data Images : Type 0 where
  Any : Images
  Kept : List ℕ → Images
  Written : Images → ℕ → List ℕ → Images

-- One is the other but for the range of a piece at a place, in which there may be any bytes. Where the range goes past
-- the end, there may be any bytes from the end up to the range's. A byte alone isn't torn.
pub record IsTorn (pos : ℕ) (piece old new : List ℕ) : Type 0 where
  pub before : take (min pos (length old)) new ≡ take pos old
  pub behind : drop (pos + length piece) new ≡ drop (pos + length piece) old
  pub no_shorter : length old ≤ length new
  pub byte : IsWholeByte old pos piece new

-- a crash may leave these contents
abbrev pub IsImage : Images → List ℕ → Type 0
IsImage Any image = Unit {0}
IsImage (Kept contents) image = image ≡ contents
IsImage (Written images pos piece) image = (old : List ℕ) × IsImage images old × IsTorn pos piece old image

-- what a crash now may leave, and what it might have left at each moment before
pub record Disk : Type 0 where
  pub now : Images
  pub past : List Images

abbrev pub clock : Disk → ℕ
clock disk = length disk.past

-- a call that makes of what a crash may leave these images
abbrev pub goes_on : Disk → Images → Disk
goes_on disk images = record { now = images; past = disk.past ++ disk.now ∷ [] }

-- a crash at one of these moments might have left these contents
abbrev pub HadImage : List Images → List ℕ → Type 0
HadImage [] image = ⊥
HadImage (images ∷ moments) image = IsImage images image ⊎ HadImage moments image

-- The one disk at a later moment is the other, and a crash at any moment from the first on leaves contents that have P.
pub record LeavesOnly (old new : Disk) (P : List ℕ → Type 0) : Type 0 where
  pub more : List Images
  pub later : new.past ++ new.now ∷ [] ≡ old.past ++ old.now ∷ more
  pub each : (image : List ℕ) → HadImage (old.now ∷ more) image → P image

-- what is said of a crash where nothing is told
abbrev pub untold : Disk
untold = record { now = Any; past = [] }
