-- Lines out of the bytes that a source hands out.
use Rattle.std.specs.Prelude.{◌≡◌, ℕ, List, [], ◌++◌, Option, IsSome, IsTrue, Result, Ok, Err}
use Rattle.gd_input.specs.declared.next.Next.{Next}
use Rattle.gd_input.specs.Cutting.{HasNoLf, Cuts, is_end}
use Rattle.gd_outside.specs.Told.{told, HandsOut}

-- these bytes are those that were pending, and behind them those that the source then handed out
pub record Takes (pending : List ℕ) (left : Option (List ℕ)) (bytes : List ℕ) (left' : Option (List ℕ)) : Type 0 where
  pub taken : List ℕ
  pub handed : HandsOut left taken left'
  pub are : bytes ≡ pending ++ taken

-- the source has nothing left, where it tells that
abbrev pub IsAtEnd : Option (List ℕ) → Type 0
IsAtEnd left = IsSome left → told left ≡ []

-- the next line was cut off the front of what was pending and what was taken
pub record ReadsNext {A : Type 0} (read : List ℕ → A) (pending : List ℕ) (left : Option (List ℕ))
    (next : Next A) (pending' : List ℕ) (left' : Option (List ℕ)) : Type 0 where
  pub bytes : List ℕ
  pub takes : Takes pending left bytes left'
  pub cuts : Cuts read bytes next pending'
  pub end : IsTrue (is_end next) → IsAtEnd left'

-- a reader of lines does this; where a read failed, what was taken before is pending, and has no LF
abbrev pub Reads : {A E : Type 0} → (List ℕ → A) → List ℕ → Option (List ℕ)
    → Result (Next A) E → List ℕ → Option (List ℕ) → Type 0
Reads read pending left (Ok next) pending' left' = ReadsNext read pending left next pending' left'
Reads read pending left (Err failed) pending' left' = Takes pending left pending' left' × HasNoLf pending'
