-- What bytes that were read ahead say of the next item.
use Rattle.std.specs.Prelude.{◌≡◌, ◌<◌, ◌≤◌, ℕ, ◌+◌, List, [], ◌++◌, length, take, drop, Option, Some, None, Result, Ok}
use Rattle.std.specs.Prelude.{Err, IsSome}
use Rattle.gd_base.specs.declared.fault.ViewWhy.{ViewWhy}
use Rattle.gd_grammar.specs.declared.sizes.TheConstants.{FRAME_BYTES}
use Rattle.gd_handover.specs.Parts.{cut}
use Rattle.gd_handover.specs.Reading.{IsMisread}
use Rattle.gd_outside.specs.Told.{told}
use Rattle.gd_viewing.specs.Viewing.{item_at}
use Rattle.gd_watch.specs.declared.items.Next.{Next}
use Rattle.gd_watch.specs.declared.items.Next.TheVariants as next

-- they end within an item, or before its first byte, where so many may come
pub record IsCut (most : ℕ) (bytes : List ℕ) : Type 0 where
  pub is : item_at bytes ≡ Err cut
  pub few : length bytes < FRAME_BYTES + 2
  pub room : 1 ≤ length bytes → 1 ≤ most

-- a whole item with a frame of so many bytes, whatever follows
pub record IsWhole (most : ℕ) (bytes : List ℕ) (count : ℕ) : Type 0 where
  pub room : 1 ≤ most
  pub few : count ≤ FRAME_BYTES
  pub fits : count + 2 ≤ length bytes
  pub alone : (more : List ℕ) → item_at (take (count + 2) bytes ++ more) ≡ Ok (take count (drop 2 bytes), more)

-- an item that may come, and has this fault with these bytes behind it
pub record IsBroken (most : ℕ) (bytes more : List ℕ) (at : ℕ) (why : ViewWhy) : Type 0 where
  pub room : 1 ≤ most
  pub some : 1 ≤ length bytes
  pub near : at ≤ FRAME_BYTES + 2
  pub misread : IsMisread (item_at (bytes ++ more)) (bytes ++ more) at why

-- what is known, whatever follows
abbrev pub Settles : ℕ → List ℕ → Option Next → Type 0
Settles most bytes None = IsCut most bytes
Settles most bytes (Some next.End) = ⊥
Settles most bytes (Some (next.Item count)) = IsWhole most bytes count
Settles most bytes (Some (next.Broken at why)) = (more : List ℕ) → IsBroken most bytes more at why
Settles most bytes (Some next.TooMany) = (most ≡ 0) × (1 ≤ length bytes)

-- What comes next, where these bytes are ahead and those are left of the input.
abbrev pub ComesNext : ℕ → Next → List ℕ → Option (List ℕ) → Type 0
ComesNext most next.End bytes left = (bytes ≡ []) × (IsSome left → told left ≡ [])
ComesNext most (next.Item count) bytes left = IsWhole most bytes count
ComesNext most (next.Broken at why) bytes left =
    (at ≤ FRAME_BYTES + 2) × (IsSome left → IsBroken most bytes (told left) at why)
ComesNext most next.TooMany bytes left = (most ≡ 0) × (1 ≤ length bytes)

-- where a read failed it isn't known
abbrev pub NextIs : {E : Type 0} → ℕ → Result Next E → List ℕ → Option (List ℕ) → Type 0
NextIs most (Ok next) bytes left = ComesNext most next bytes left
NextIs most (Err e) bytes left = IsCut most bytes
