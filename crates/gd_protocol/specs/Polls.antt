-- Datagrams that are mails of a world.
use Rattle.std.specs.Prelude.{◌≡◌, ℕ, List, [], ◌∷◌, Some, slice_get}
use Rattle.gd_grammar.specs.FrameBytes.{Frame, frame_bytes}
use Rattle.gd_outside.specs.Seen.{Entry, Packet}
use Rattle.gd_reference.specs.World.{World}

-- the entries hand out the mails of these numbers, one after another, all of which are for that site
abbrev pub BringMail : World → ℕ → List ℕ → List Entry → Type 0
BringMail w s [] [] = Unit {0}
BringMail w s [] (e ∷ es) = ⊥
BringMail w s (k ∷ ks) [] = ⊥
BringMail w s (k ∷ ks) (e ∷ es) =
    (f : Frame) × (slice_get w.mail k ≡ Some f) × (f.head.to ≡ s) × (e ≡ Packet (frame_bytes f)) × BringMail w s ks es
