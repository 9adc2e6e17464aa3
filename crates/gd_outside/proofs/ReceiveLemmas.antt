-- A receive has one answer.
use Rattle.std.proofs.Common.{◌≡◌, ℕ, ◌<◌, ◌≤◌, List, [], ◌∷◌, ◌++◌, length, drop, refl, inl, inr, ◌⊎◌, arith}
use Rattle.std.proofs.Common.{length-append, length-drop}
use Rattle.std.proofs.lemmas.Bool.{cases_lt, le-leb, lt-leb}
use Rattle.std.proofs.lemmas.List.{take_at, length-take-le}
use Rattle.gd_outside.specs.declared.link.Received.{Received}
use Rattle.gd_outside.specs.declared.link.Received.TheVariants as got
use Rattle.gd_outside.specs.Links.{FitsBuffer, Took}
use Rattle.gd_outside.specs.Receives.{Answer, IsAnswer, answered}
use Rattle.gd_outside.specs.Seen.{Entry, Packet, Pause, Failure}

pub one_answer : (entries : List Entry) (r : Received) (buffer : List ℕ) (left : List Entry) → FitsBuffer r buffer
    → Took entries r buffer left → (r ≡ answered entries (length buffer)) × (left ≡ drop 1 entries)
one_answer entries (got.Datagram k) buffer left fits took
    = rw (took, length-take-le k buffer fits, le-leb k (length buffer) fits) (refl, refl)
one_answer entries got.TooLong buffer left fits (datagram, longer, is)
    = rw (is, lt-leb (length datagram) (length buffer) longer) (refl, refl)
one_answer entries got.Nothing buffer left fits (inl (none, end)) = rw (none, end) (refl, refl)
one_answer entries got.Nothing buffer left fits (inr pause) = rw pause (refl, refl)
one_answer entries got.Failed buffer left fits took = rw took (refl, refl)

-- a datagram that fits is put in front of what stands behind it in the buffer
datagram_answer : (datagram : List ℕ) (entries : List Entry) (buffer : List ℕ)
    → (length buffer < length datagram) ⊎ (length datagram ≤ length buffer)
    → (a : Answer) × ((length a.buffer ≡ length buffer) × IsAnswer (Packet datagram ∷ entries) a)
datagram_answer datagram entries buffer (inl longer)
    = (record { received = got.TooLong; buffer = buffer; left = entries }, (refl, (tt, (datagram, longer, refl))))
datagram_answer datagram entries buffer (inr fits) =
    let rest = drop (length datagram) buffer in (
      record { received = got.Datagram (length datagram); buffer = datagram ++ rest; left = entries },
      (
        omega (arith, length-append datagram rest, length-drop (length datagram) buffer),
        (omega (arith, length-append datagram rest), rw (take_at datagram rest (length datagram) refl) refl),
      ),
    )

pub some_answer : (entries : List Entry) (buffer : List ℕ)
    → (a : Answer) × ((length a.buffer ≡ length buffer) × IsAnswer entries a)
some_answer [] buffer = (record { received = got.Nothing; buffer = buffer; left = [] }, (refl, (tt, inl (refl, refl))))
some_answer (Packet datagram ∷ entries) buffer
    = datagram_answer datagram entries buffer (cases_lt (length buffer) (length datagram))
some_answer (Pause ∷ entries) buffer
    = (record { received = got.Nothing; buffer = buffer; left = entries }, (refl, (tt, inr refl)))
some_answer (Failure ∷ entries) buffer
    = (record { received = got.Failed; buffer = buffer; left = entries }, (refl, (tt, refl)))
