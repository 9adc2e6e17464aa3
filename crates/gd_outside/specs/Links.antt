-- What the calls on a link do to what it tells.
use Rattle.std.specs.Prelude.{◌≡◌, ℕ, ◌<◌, ◌≤◌, ◌⊎◌, List, [], ◌∷◌, length, take, Option, Some, IsSome}
use Rattle.gd_outside.specs.declared.link.Received.{Received}
use Rattle.gd_outside.specs.declared.link.Received.TheVariants as got
use Rattle.gd_outside.specs.Causes.{Rose}
use Rattle.gd_outside.specs.Seen.{Entry, Packet, Pause, Failure, Tried, SeenLink}
use Rattle.gd_outside.specs.Told.{told}

-- What a receive took from the entries, by its answer and its buffer: a datagram that fits; a datagram that is longer
-- than the buffer; a pause, or nothing at the end of the entries; a failure.
abbrev pub Took : List Entry → Received → List ℕ → List Entry → Type 0
Took old (got.Datagram k) buffer new = old ≡ Packet (take k buffer) ∷ new
Took old got.TooLong buffer new = (datagram : List ℕ) × (length buffer < length datagram)
    × (old ≡ Packet datagram ∷ new)
Took old got.Nothing buffer new = ((old ≡ []) × (new ≡ [])) ⊎ (old ≡ Pause ∷ new)
Took old got.Failed buffer new = old ≡ Failure ∷ new

-- the same of entries that are told
pub record Takes (old : Option (List Entry)) (received : Received) (buffer : List ℕ) (new : Option (List Entry)) : Type
    0 where
  pub was : IsSome new → IsSome old
  pub now : IsSome new → Took (told old) received buffer (told new)

-- a datagram that was received is no longer than the buffer
abbrev pub FitsBuffer : Received → List ℕ → Type 0
FitsBuffer (got.Datagram k) buffer = k ≤ length buffer
FitsBuffer got.TooLong buffer = Unit {0}
FitsBuffer got.Nothing buffer = Unit {0}
FitsBuffer got.Failed buffer = Unit {0}

-- one frame that was tried for a site
abbrev pub one_try : ℕ → List ℕ → List Tried
one_try to frame = record { to = to; frame = frame } ∷ []

-- what is told is as it was
abbrev pub Keeps : {A : Type 0} → Option A → Option A → Type 0
Keeps old new = IsSome new → new ≡ old

-- the addresses and the own number are as they were
pub record StaysOpen (old new : SeenLink) : Type 0 where
  pub addresses : Keeps old.addresses new.addresses
  pub me : Keeps old.me new.me

-- the addresses and the own number, where they are told, are these
pub record IsOpen (all : List (List ℕ)) (own : ℕ) (link : SeenLink) : Type 0 where
  pub addresses : IsSome link.addresses → told link.addresses ≡ all
  pub me : IsSome link.me → link.me ≡ Some own

-- What comes together at each call on a link: what isn't told before it isn't told after it, its count of faults
-- doesn't fall, and a failure has its cause.
pub record LinkCalled (old new : SeenLink) (failed : Type 0) : Type 0 where
  pub entries_was : IsSome new.entries → IsSome old.entries
  pub tried_was : IsSome new.tried → IsSome old.tried
  pub addresses_was : IsSome new.addresses → IsSome old.addresses
  pub me_was : IsSome new.me → IsSome old.me
  pub count : old.faults ≤ new.faults
  pub cause : failed → Rose old.faults new.faults
