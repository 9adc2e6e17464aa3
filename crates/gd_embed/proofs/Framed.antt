-- A frame for which the buffer has no room.
use Rattle.std.proofs.Common.{◌≡◌, ℕ, ℤ, List, refl, subst, sym}
use Rattle.std.specs.Prelude.{Result, Err}
use Rattle.gd_embed.specs.Telling.{Buffer, FrameAnswerIs, Writes}
use Rattle.gd_embed.specs.declared.answers.Fault.{Fault}
use Rattle.gd_embed.specs.declared.answers.Fault.TheVariants as fault
use Rattle.gd_embed.specs.declared.held.Held.{Held}
use Rattle.gd_events.specs.Events.{Event}
use Rattle.gd_grammar.specs.FrameBytes.{frame_bytes}
use Rattle.gd_member.specs.Sending.{start_of}
use Rattle.gd_reference.specs.Offers.{frame_behind}
use Rattle.gd_reference.specs.SlowSite.{SlowSite}

module _ (to behind : ℕ) (buffer : Buffer) (slow : SlowSite) (written : List Event) (held : Held)
    (all : slow.held ≡ written) where
  pub frame_short : (f : Fault) → Writes (frame_bytes (frame_behind slow to (start_of slow to behind))) buffer (Err f)
      → FrameAnswerIs to behind behind buffer slow written held (Err f) held
  frame_short fault.Room writes = (refl, (all, (refl, writes)))
  frame_short fault.Empty writes = absurd writes.0
  frame_short fault.Spent writes = absurd writes.0
  frame_short fault.Occupied writes = absurd writes.0
  frame_short fault.NoMemory writes = absurd writes.0
  frame_short fault.Refused writes = absurd writes.0
  frame_short fault.NotHere writes = absurd writes.0
  frame_short fault.Unwritten writes = absurd writes.0
  frame_short fault.NotThese writes = absurd writes.0
  frame_short fault.NoSite writes = absurd writes.0
  frame_short fault.NoNote writes = absurd writes.0
  frame_short fault.NotParted writes = absurd writes.0
  frame_short fault.BadJournal writes = absurd writes.0
  frame_short fault.OtherJournal writes = absurd writes.0

  -- as the call hands the fault on
  pub frame_fails : (r : Result ℤ Fault) (e f : Fault) → r ≡ Err e → e ≡ f
      → Writes (frame_bytes (frame_behind slow to (start_of slow to behind))) buffer (Err f)
      → FrameAnswerIs to behind behind buffer slow written held r held
  frame_fails r e f is same writes =
      subst (λ (x : Result ℤ Fault). FrameAnswerIs to behind behind buffer slow written held x held)
      (sym (subst (λ (x : Fault). r ≡ Err x) same is)) (frame_short f writes)
