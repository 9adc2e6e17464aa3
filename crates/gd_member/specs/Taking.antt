-- What comes of a datagram, what is said of it, and the steps that it takes.
use Rattle.std.specs.Prelude.{◌≡◌, ℕ, List, [], ◌∷◌, ◌++◌, Result, Ok, Err, if◌then◌else◌}
use Rattle.gd_answers.specs.Paying.{frame_works}
use Rattle.gd_effects.specs.Effects.{Effect}
use Rattle.gd_events.specs.Events.{Event}
use Rattle.gd_grammar.specs.FrameBytes.{Frame, Misread, frame}
use Rattle.gd_grammar.specs.Reading.{place}
use Rattle.gd_lines.specs.declared.reply.Reply.{Reply}
use Rattle.gd_lines.specs.declared.reply.Reply.TheVariants as reply
use Rattle.gd_member.specs.Unwritten.{AreUnwritten, UnwrittenValue}
use Rattle.gd_reference.specs.NodeRun.{is_too_long}
use Rattle.gd_reference.specs.Offers.{take_frame}
use Rattle.gd_reference.specs.SiteEffects.{frame_replies}
use Rattle.gd_reference.specs.SlowSite.{SlowSite}

-- of bytes that are a frame, or none
abbrev pub read_replies : SlowSite → List ℕ → Result Frame Misread → List Reply
read_replies slow bytes (Ok f) = frame_replies slow f
read_replies slow bytes (Err misread) =
    reply.BadFrame (record { at = place bytes misread.left; why = misread.why }) ∷ []

abbrev pub datagram_replies : SlowSite → List ℕ → List Reply
datagram_replies slow datagram =
    if is_too_long datagram then reply.LongFrame ∷ [] else read_replies slow datagram (frame datagram)

-- the steps of the same: those of the frame, if it is one
abbrev pub read_works : SlowSite → Result Frame Misread → List Effect
read_works slow (Ok f) = frame_works slow f
read_works slow (Err misread) = []

abbrev pub datagram_works : SlowSite → List ℕ → List Effect
datagram_works slow datagram = if is_too_long datagram then [] else read_works slow (frame datagram)

-- what is taken of a frame was put with the unwritten events
pub record TakesIn (slow : SlowSite) (f : Frame) (old new : UnwrittenValue) : Type 0 where
  pub more : List Event
  pub held : (take_frame slow f).held ≡ slow.held ++ more
  pub put : (written others : List Event) → AreUnwritten written others old → AreUnwritten written (others ++ more) new
