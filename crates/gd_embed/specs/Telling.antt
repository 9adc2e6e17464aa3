-- Calls that write what there is.
use Rattle.std.specs.Prelude.{◌≡◌, ◌≢◌, ◌<◌, true, false, IsTrue, ℕ, ℤ, pos, List, [], ◌∷◌, ◌++◌, Option, Some, None}
use Rattle.std.specs.Prelude.{Result, Ok, Err, length}
use Rattle.gd_embed.specs.Buffers.{FillIs}
use Rattle.gd_embed.specs.Calls.{Call}
use Rattle.gd_embed.specs.Records.{StatusIs}
use Rattle.gd_embed.specs.declared.answers.Fault.{Fault}
use Rattle.gd_embed.specs.declared.answers.Fault.TheVariants as fault
use Rattle.gd_embed.specs.declared.records.Standing.{Standing}
use Rattle.gd_base.specs.Sites.{is_site}
use Rattle.gd_base.specs.declared.version.Version.TheVariants.{Three}
use Rattle.gd_events.specs.Events.{Event}
use Rattle.gd_grammar.specs.Closing.{gate_place}
use Rattle.gd_grammar.specs.Drawings.{drawings}
use Rattle.gd_grammar.specs.FrameBytes.{frame_bytes}
use Rattle.gd_grammar.specs.LogBytes.{logged}
use Rattle.gd_member.specs.Sending.{start_of}
use Rattle.gd_member.specs.Standing.{Stands}
use Rattle.gd_member.specs.Unwritten.{piece_of}
use Rattle.gd_reference.specs.Offers.{brought_behind, frame_behind}
use Rattle.gd_reference.specs.SlowSite.{SlowSite, journal_header, status}
use Rattle.gd_site.specs.Sites.{IsOtherOf}

-- a buffer before and after a call, and how many bytes it needs
pub record Buffer : Type 0 where
  pub old : List ℕ
  pub new : List ℕ
  pub needed : ℕ

-- The member stays, and bytes of what it stands for are written to a buffer, or there is no room for them.
abbrev pub Writes : List ℕ → Buffer → Result ℤ Fault → Type 0
Writes bytes buffer r = FillIs bytes buffer.old r buffer.new × (buffer.needed ≡ length bytes)

abbrev pub HeadIs : Buffer → Call
HeadIs buffer slow written old r new = (new ≡ old) × Writes (logged drawings (journal_header slow) []) buffer r

abbrev pub SaidIs : Buffer → Call
SaidIs buffer slow written old r new = (new ≡ old) × Writes old.said buffer r

-- the bytes of the events that the journal doesn't have, and the place of its closing gate
abbrev pub UnwrittenIs : ℕ → Buffer → Call
UnwrittenIs place buffer slow written old r new =
    (new ≡ old) × ((place ≡ gate_place drawings Three written)
    × ((others : List Event) → slow.held ≡ written ++ others → Writes (piece_of written others) buffer r))

-- the journal has all events, where it was told of as many bytes as they have
abbrev pub WrittenIs : ℕ → Call
WrittenIs count slow written old (Ok done) new =
    (done ≡ pos 0) × (Stands slow slow.held new.member × ((new.said ≡ old.said)
    × ((others : List Event) → slow.held ≡ written ++ others → count ≡ length (piece_of written others))))
WrittenIs count slow written old (Err fault.NotThese) new =
    (new ≡ old) × ((others : List Event) → slow.held ≡ written ++ others → count ≢ length (piece_of written others))
WrittenIs count slow written old (Err other) new = ⊥

-- A frame for another site, behind so many own events or those that it has acknowledged, and how many it has then.
abbrev pub FrameAnswerIs : ℕ → ℕ → ℕ → Buffer → Call
FrameAnswerIs to behind later buffer slow written old (Err fault.NoSite) new =
    (new ≡ old) × ((IsOtherOf slow to → ⊥) × ((buffer.new ≡ buffer.old) × (later ≡ behind)))
FrameAnswerIs to behind later buffer slow written old (Err fault.Unwritten) new =
    (new ≡ old) × ((slow.held ≢ written) × ((buffer.new ≡ buffer.old) × (later ≡ behind)))
FrameAnswerIs to behind later buffer slow written old (Err fault.Room) new =
    (new ≡ old) × ((slow.held ≡ written) × ((later ≡ behind)
    × Writes (frame_bytes (frame_behind slow to (start_of slow to behind))) buffer (Err fault.Room)))
FrameAnswerIs to behind later buffer slow written old (Ok count) new =
    (new ≡ old) × ((slow.held ≡ written) × ((later ≡ brought_behind slow to (start_of slow to behind))
    × Writes (frame_bytes (frame_behind slow to (start_of slow to behind))) buffer (Ok count)))
FrameAnswerIs to behind later buffer slow written old (Err other) new = ⊥

abbrev pub StandingIs : Standing → Call
StandingIs standing slow written old (Ok done) new = (new ≡ old) × ((done ≡ pos 0) × StatusIs (status slow) standing)
StandingIs standing slow written old (Err other) new = ⊥

-- at which count of a site's events the member has parted from it
abbrev pub PartedIs : ℕ → Call
PartedIs site slow written old (Ok count) new = (new ≡ old)
    × ((at : ℕ) × ((slow.parted site ≡ Some at) × (count ≡ pos at)))
PartedIs site slow written old (Err fault.NotParted) new = (new ≡ old) × (slow.parted site ≡ None)
PartedIs site slow written old (Err fault.NoSite) new = (new ≡ old) × (is_site slow.sites site ≡ false)
PartedIs site slow written old (Err other) new = ⊥
