-- What the links in memory are made of.
use Rattle.std.specs.Prelude.{ℕ, List, [], ◌∷◌}
use Rattle.gd_outside.specs.declared.memory.entry.Held.{Held}
use Rattle.gd_outside.specs.declared.memory.entry.Held.TheVariants as held
use Rattle.gd_outside.specs.Seen.{Entry, Packet, Pause, Failure, Tried}

-- the entry that is held
abbrev pub entry_of : Held → Entry
entry_of (held.Packet bytes) = Packet bytes.items
entry_of held.Pause = Pause
entry_of held.Failure = Failure

abbrev pub IsNoFailure : Entry → Type 0
IsNoFailure (Packet datagram) = Unit {0}
IsNoFailure Pause = Unit {0}
IsNoFailure Failure = ⊥

-- the frames that are kept, and the room for them
pub record KeptFrames : Type 0 where
  pub tried : List Tried
  pub room : ℕ

-- frames whose sites and bytes are held apart, in the same order
abbrev pub tried_for : List ℕ → List (List ℕ) → List Tried
tried_for [] frames = []
tried_for (to ∷ sites) [] = []
tried_for (to ∷ sites) (frame ∷ frames) = record { to = to; frame = frame } ∷ tried_for sites frames
