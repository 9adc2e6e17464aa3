-- What comes of asking a member for a frame.
use Rattle.std.specs.Prelude.{◌≡◌, ◌≢◌, ℕ, List, Result, Ok, Err, max}
use Rattle.gd_events.specs.Events.{Event}
use Rattle.gd_grammar.specs.FrameBytes.{frame_bytes}
use Rattle.gd_member.specs.declared.sending.SendFault.{SendFault}
use Rattle.gd_member.specs.declared.sending.SendFault.TheVariants.{NoSuchSite, Unwritten}
use Rattle.gd_reference.specs.Offers.{brought_behind, frame_behind}
use Rattle.gd_reference.specs.SlowSite.{SlowSite}
use Rattle.gd_site.specs.Sites.{IsOtherOf}

-- behind so many own events, or behind those that the other site acknowledged, if these are more
abbrev pub start_of : SlowSite → ℕ → ℕ → ℕ
start_of slow to behind = max behind (slow.acked to)

-- The frame for another site where the journal has all events, and how many own ones that site has then. Else the bytes
-- stay.
abbrev pub FrameIs : SlowSite → List Event → ℕ → ℕ → Result ℕ SendFault → List ℕ → List ℕ → Type 0
FrameIs slow written to behind (Ok brought) old new =
    IsOtherOf slow to × (slow.held ≡ written) × (new ≡ frame_bytes (frame_behind slow to (start_of slow to behind)))
    × (brought ≡ brought_behind slow to (start_of slow to behind))
FrameIs slow written to behind (Err NoSuchSite) old new = (¬ IsOtherOf slow to) × (new ≡ old)
FrameIs slow written to behind (Err Unwritten) old new = (slow.held ≢ written) × (new ≡ old)
