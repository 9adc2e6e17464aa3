-- The frame that a site writes is the reference site's.
use Rattle.std.proofs.Common.{◌≡◌, ℕ, ◌+◌, ◌-◌, ◌≤◌, List, drop, length, length-drop, length-take, sym, ap, ◌∙◌, subst}
use Rattle.std.proofs.Common.{arith}
use Rattle.std.specs.Prelude.{slice_index}
use Rattle.gd_aware.specs.Notes.{note_of}
use Rattle.gd_base.specs.declared.note.Note.{Note}
use Rattle.gd_events.specs.Events.{Event}
use Rattle.gd_grammar.specs.FrameBytes.{Frame, IsFrame, frame_bytes}
use Rattle.gd_reference.specs.Fitting.{frame_count, in_a_frame}
use Rattle.gd_reference.specs.Offers.{brought_behind, frame_behind}
use Rattle.gd_reference.specs.SlowSite.{SlowSite, held_check, own, least_acked}
use Rattle.gd_protocol.proofs.Least.{least_of_others-top, least_of_others-at}
use Rattle.gd_base.proofs.SiteLemmas.{is_site-bounds}
use Rattle.gd_protocol.proofs.SiteFrames.{count_in_range, well_behind}
use Rattle.gd_stable.specs.Peers.{IsOther, of_site}
use Rattle.gd_stable.specs.Outboxes.{first_above}
use Rattle.gd_wire.specs.Frames.{FrameEventsValue, spelled_events}
use Rattle.gd_site.specs.Sites.{SiteValue, IsOtherOf, StandsFor}
use Rattle.gd_site.proofs.Chained.{held_check_is}
use Rattle.gd_site.proofs.Noting.{own_note_is}
use Rattle.gd_site.proofs.Numbered.{numbered-drop}
use Rattle.gd_site.proofs.Stands.{other_of}

abbrev framed : SiteValue → ℕ → ℕ → ℕ → ℕ → Note → List Event → Frame
framed s to me ack check note events =
    record {
      head =
          record {
            session = s.session;
            from = me;
            to = to;
            ack = ack;
            count = s.made;
            clock = s.clock;
            check = check;
          };
      note = note;
      events = events;
    }

abbrev pub frame_of : SiteValue → ℕ → ℕ → Frame
frame_of s to start =
    framed s to s.peers.me (of_site s.peers.counts to) (slice_index s.chains (s.peers.me - 1))
    (note_of s.notes s.peers.me)
    (first_above start s.outbox.events)

-- a site makes at most as many events as a number of two bytes counts
made_fits : (slow : SlowSite) (s : SiteValue) → StandsFor slow s → length (own slow) ≤ 65535
made_fits slow s stands = count_in_range slow stands.well slow.me

module _ (slow : SlowSite) (s : SiteValue) (stands : StandsFor slow s) (to : ℕ) (other : IsOther s.peers to) (start : ℕ)
    (unacked : of_site s.peers.acks to ≤ start) where
  there : IsOtherOf slow to
  there = other_of slow s stands to other

  events_are : first_above start s.outbox.events ≡ in_a_frame (drop start (own slow))
  events_are =
      let bounds = is_site-bounds slow.sites to there.0 in
      let made = length (own slow) in
      let least = least_of_others-at slow.acked slow.me made slow.sites to bounds.0 bounds.1 there.1 in
      let few = least_of_others-top slow.acked slow.me made slow.sites in
      let behind : least_acked slow ≤ start = omega (arith, least, stands.acks to there, unacked) in
      ap (first_above start) stands.outbox_is
      ∙ ap (λ (l : List Event). in_a_frame l)
      (numbered-drop slow.me (own slow) (least_acked slow) start (stands.well.chains slow.me) behind few)

  own_check : slice_index s.chains (s.peers.me - 1) ≡ held_check slow slow.me
  own_check =
      let bounds = is_site-bounds slow.sites slow.me stands.well.member in
      ap (λ (m : ℕ). slice_index s.chains (m - 1)) stands.me
      ∙ stands.chains.are slow.me bounds.0 (omega (arith, bounds.1, stands.well.met.1))
      ∙ held_check_is slow slow.me

  pub frame_is : frame_of s to start ≡ frame_behind slow to start
  unfolding frame_behind
  frame_is = λ i.
      record {
        head =
            record {
              session = stands.session i;
              from = stands.me i;
              to = to;
              ack = stands.counts to there i;
              count = stands.made i;
              clock = stands.clock_is i;
              check = own_check i;
            };
        note = own_note_is slow s stands i;
        events = events_are i;
      }

  pub frame_good : IsFrame (frame_of s to start)
  frame_good = subst IsFrame (sym frame_is) (well_behind slow to start there.0 stands.well)

  -- a frame behind so many brings no more than there are
  pub brought_few : start ≤ 65535 → start + length (frame_of s to start).events ≤ 65535
  brought_few within =
      let unsent = drop start (own slow) in
      omega (
        arith,
        within,
        stands.made,
        made_fits slow s stands,
        ap (λ (l : List Event). length l) events_are,
        length-take (frame_count unsent) unsent,
        length-drop start (own slow),
      )

-- what the calls of `write_frame` give
pub record Framed (s : SiteValue) (to me ack check : ℕ) (note : Note) (start : ℕ)
    (events : FrameEventsValue) : Type 0 where
  pub me_is : me ≡ s.peers.me
  pub ack_is : ack ≡ of_site s.peers.counts to
  pub check_is : check ≡ slice_index s.chains (me - 1)
  pub note_is : note ≡ note_of s.notes me
  pub events_are : events ≡ spelled_events (first_above start s.outbox.events)

module _ (s : SiteValue) (to me ack check : ℕ) (note : Note) (start : ℕ) (events : FrameEventsValue)
    (f : Framed s to me ack check note start events)
    (slow : SlowSite) (stands : StandsFor slow s) (other : IsOther s.peers to)
    (unacked : of_site s.peers.acks to ≤ start) where
  abbrev wanted : List Event
  wanted = first_above start s.outbox.events

  framed_is : framed s to me ack check note wanted ≡ frame_behind slow to start
  framed_is =
      let note_there = f.note_is ∙ ap (note_of s.notes) f.me_is in
      let check_there = f.check_is ∙ ap (λ (m : ℕ). slice_index s.chains (m - 1)) f.me_is in
      let same : framed s to me ack check note wanted ≡ frame_of s to start =
      λ i. framed s to (f.me_is i) (f.ack_is i) (check_there i) (note_there i) wanted in
      same ∙ frame_is slow s stands to other start unacked

  -- so these are its bytes
  pub framed_bytes : (bytes : List ℕ)
      → ((es : List Event) → events ≡ spelled_events es → bytes ≡ frame_bytes (framed s to me ack check note es))
      → bytes ≡ frame_bytes (frame_behind slow to start)
  framed_bytes bytes are = are wanted f.events_are ∙ ap frame_bytes framed_is

  -- and the other site has so many own events then
  counted : events.count ≡ length wanted
  counted = ap (λ (v : FrameEventsValue). v.count) f.events_are

  pub framed_brought : start + events.count ≡ brought_behind slow to start
  framed_brought = ap (λ (n : ℕ). start + n) (counted ∙ ap (λ (g : Frame). length g.events) framed_is)

  pub framed_few : start ≤ 65535 → start + events.count ≤ 65535
  framed_few within = omega (arith, counted, brought_few slow s stands to other start unacked within)
