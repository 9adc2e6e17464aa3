-- What reading and writing frames needs: an error of a part is one of the whole, and events stand one behind the other.
use Rattle.std.proofs.Common.{◌≡◌, ℕ, ◌+◌, List, [], ◌∷◌, ◌++◌, length, Option, Result, Ok, Err}
use Rattle.std.proofs.Common.{refl, sym, ap, ◌∙◌, append_assoc, arith}
use Rattle.std.proofs.lemmas.List.{length-append}
use Rattle.gd_base.specs.declared.note.Note.{Note}
use Rattle.gd_events.specs.Events.{Event}
use Rattle.gd_grammar.specs.declared.frame.Head.{Head}
use Rattle.gd_grammar.specs.declared.frame.Last.{Last}
use Rattle.gd_grammar.specs.Drawings.{event_at, spelling}
use Rattle.gd_grammar.specs.FrameBytes.{Frame, Misread, frame_magic_at, frame_version_at, next_event_at}
use Rattle.gd_grammar.specs.FrameBytes.{body_frame, body_at, in_body, frame}
use Rattle.gd_grammar.specs.FrameBytes.{head_bytes, note_bytes, events_bytes, frame_bytes, with_checksum}
use Rattle.gd_grammar.proofs.FrameWhole.{Begun, frame-of}
use Rattle.gd_grammar.proofs.Many.{each_bytes-more}
use Rattle.gd_wire.specs.Frames.{FaultIs, FrameEventsValue, pack_error, spelled_events, with_spelled}
use Rattle.gd_wire.specs.Packed.{GivesPacked}
use Rattle.gd_wire.specs.declared.frame.error.ReadError.{ReadError}
use Rattle.gd_wire.specs.declared.frame.error.ReadError.TheVariants as reading
use Rattle.gd_wire.specs.declared.pack_error.PackError.{PackError}
use Rattle.gd_wire.specs.declared.pack_error.PackError.TheVariants as packed

-- ---- reading

-- where each fault of a part is one of the whole, so is an error
pub stops : {Y Z : Type 0} (error : ReadError) (part : Result Y Misread) (all : Result Z Misread)
    → ((m : Misread) → part ≡ Err m → all ≡ Err m) → FaultIs error part → FaultIs error all
stops reading.Memory part all faulty h = tt
stops (reading.Misread why left) part all faulty h = faulty (record { why = why; left = left }) h

-- an error of an event is one of the next event
pub next-stops : (head : Head) (last : Option Last) (bytes rest : List ℕ) (error : PackError)
    → GivesPacked {X = Event} (λ e. (e, rest)) (Err error) (event_at bytes)
    → FaultIs (pack_error error) (next_event_at head last bytes)
unfolding next_event_at
next-stops head last bytes rest packed.Memory h = tt
next-stops head last bytes rest (packed.Field fault) h = rw h refl

module _ {bytes : List ℕ} {magic version : ℕ × List ℕ} where
  -- the magic and the version were read
  pub begun : {first : List ℕ} → first ≡ bytes → frame_magic_at first ≡ Ok magic → frame_version_at magic.1 ≡ Ok version
      → Begun bytes magic version
  begun is m v = record { magic_is = rw is at m; version_is = v }

  -- and then the body
  pub of-body : {body : List ℕ} {result : Result Frame Misread} → Begun bytes magic version → body_at bytes ≡ Ok body
      → body_frame body ≡ result → frame bytes ≡ in_body result
  of-body {body} front b e = frame-of bytes body magic version front b ∙ ap (λ (r : Result Frame Misread). in_body r) e

-- ---- writing

-- the bytes of one more event, behind those of the others
pub one-more : (events : FrameEventsValue) (es : List Event) (e : Event) → events ≡ spelled_events es
    → with_spelled events (spelling e) ≡ spelled_events (es ++ e ∷ [])
one-more events es e is =
    let counted : length es + 1 ≡ length (es ++ e ∷ []) = omega (arith, length-append es (e ∷ [])) in
    let spelled : events_bytes es ++ spelling e ≡ events_bytes (es ++ e ∷ []) = sym (each_bytes-more spelling es e) in
    let both : with_spelled (spelled_events es) (spelling e) ≡ spelled_events (es ++ e ∷ []) =
    λ i. record { count = counted i; text = spelled i } in
    ap (λ (v : FrameEventsValue). with_spelled v (spelling e)) is ∙ both

-- the parts of a frame, and its checksum
pub frame-put : (head : Head) (note : Note) (events : FrameEventsValue) (es : List Event) → events ≡ spelled_events es
    → with_checksum (((head_bytes head ++ note_bytes note) ++ events.count ∷ []) ++ events.text)
    ≡ frame_bytes (record { head = head; note = note; events = es })
frame-put head note events es is =
    let put = append_assoc (head_bytes head ++ note_bytes note) (events.count ∷ []) events.text in
    ap (λ (b : List ℕ). with_checksum b) put
    ∙ ap (λ (v : FrameEventsValue). with_checksum (head_bytes head ++ note_bytes note ++ v.count ∷ v.text)) is
