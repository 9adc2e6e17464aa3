-- Worked rows of links in memory.
use Rattle.std.specs.Prelude.{ℕ, [], ◌∷◌, None, Some}
use Rattle.gd_outside.specs.MemoryLinks.{KeptLink, new_link, with_addresses, with_entry, with_frame}
use Rattle.gd_outside.specs.Seen.{Packet, Pause, SeenLink}

-- a link with a pause and a datagram, opened as site 2 with two addresses of one byte
abbrev pub opened_link : KeptLink
opened_link = with_addresses (with_entry (with_entry (new_link 8) Pause) (Packet (7 ∷ []))) ((5 ∷ []) ∷ (6 ∷ []) ∷ []) 2

-- it has no room left once a frame of two bytes was tried, and then an empty one
abbrev pub full_link : KeptLink
full_link = with_frame (with_frame opened_link 1 (1 ∷ 2 ∷ [])) 3 []

abbrev pub seen_full_link : SeenLink
seen_full_link = record {
  entries = Some (Pause ∷ Packet (7 ∷ []) ∷ []);
  tried = Some (record { to = 1; frame = 1 ∷ 2 ∷ [] } ∷ record { to = 3; frame = [] } ∷ []);
  addresses = Some ((5 ∷ []) ∷ (6 ∷ []) ∷ []);
  me = Some 2;
  faults = 0;
}

abbrev pub untold : ℕ → SeenLink
untold faults = record { entries = None; tried = None; addresses = None; me = None; faults = faults }
