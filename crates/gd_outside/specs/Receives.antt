-- What a receive answers, by the next entry and the length of its buffer.
use Rattle.std.specs.Prelude.{ℕ, nat_le, if◌then◌else◌, List, [], ◌∷◌, length}
use Rattle.gd_outside.specs.declared.link.Received.{Received}
use Rattle.gd_outside.specs.declared.link.Received.TheVariants as got
use Rattle.gd_outside.specs.Links.{FitsBuffer, Took}
use Rattle.gd_outside.specs.Seen.{Entry, Packet, Pause, Failure}

-- what it comes to, its buffer, and the entries behind it
pub record Answer : Type 0 where
  pub received : Received
  pub buffer : List ℕ
  pub left : List Entry

-- a receive at these entries may answer so
abbrev pub IsAnswer : List Entry → Answer → Type 0
IsAnswer entries a = FitsBuffer a.received a.buffer × Took entries a.received a.buffer a.left

-- what it comes to
abbrev pub answered : List Entry → ℕ → Received
answered [] size = got.Nothing
answered (Pause ∷ entries) size = got.Nothing
answered (Failure ∷ entries) size = got.Failed
answered (Packet datagram ∷ entries) size = if nat_le (length datagram) size then got.Datagram (length datagram)
    else got.TooLong
