-- The reference viewer, which is slow: it shows the drawing of a session, and is no member.
--
-- It begins with a snapshot: with the board of the events up to a site's line, and with the events that the site kept.
-- It holds the events that it accepted behind these, in the order in which it accepted them. Of each site it keeps how
-- many of its events were held, those in the board too, and its sure clock. Its line is the least of the sure clocks,
-- and what it shows is the board with the held events applied by stamp.
--
-- An event stands to what is held as at a site. A frame is refused where it is of another session or from no site of
-- it, judged in this order; then nothing changes. It need not be for the viewer. Otherwise its events are offered one
-- after the other; then, where the count of its sender's events is the frame's count, the sender's sure clock becomes
-- the frame's clock where that is greater. A viewer takes no acknowledgement and no note.
use Rattle.std.specs.Prelude.{ℕ, ◌+◌, max, List, [], ◌∷◌, ◌++◌, length, Option, Some, None, ◌==◌, if◌then◌else◌}
use Rattle.std.specs.FinMap as map_of
use Rattle.gd_base.specs.Sites.{is_site}
use Rattle.gd_base.specs.declared.offer.Offer.{Offer}
use Rattle.gd_base.specs.declared.offer.Offer.TheVariants.{Next, Repeat, Gap, Backdated}
use Rattle.gd_base.specs.declared.refusal.FrameFault.{FrameFault}
use Rattle.gd_base.specs.declared.refusal.FrameFault.TheVariants.{Session, NoSuchSite}
use Rattle.gd_events.specs.Events.{Event}
use Rattle.gd_events.specs.Ordered.{ordered}
use Rattle.gd_grammar.specs.FrameBytes.{Frame}
use Rattle.gd_grammar.specs.declared.frame.Head.{Head}
use Rattle.gd_model.specs.Board.{Board, apply_all, listed}
use Rattle.gd_model.specs.Drawing.{Drawing}
use Rattle.gd_reference.specs.Offers.{offered}
use Rattle.gd_reference.specs.PerSite.{least_of_others, put}
use Rattle.gd_snapshots.specs.Snapshots.{Snapshot, known_of}

pub record SlowViewer : Type 0 where
  pub session : ℕ
  pub sites : ℕ
  pub base : Board
  pub held : List Event
  pub count : ℕ → ℕ
  pub sure : ℕ → ℕ

-- what a viewer of that snapshot begins with
unfoldable pub opened : Snapshot → SlowViewer
opened s =
    record {
      session = s.session;
      sites = length s.known;
      base = map_of.from_entries s.objects;
      held = s.kept;
      count = λ site. (known_of s.known site).count;
      sure = λ site. (known_of s.known site).sure;
    }

-- the least of the sure clocks; 0 is no site
abbrev pub viewer_line : SlowViewer → ℕ
viewer_line v = least_of_others v.sure 0 (v.sure 1) v.sites

-- the drawing that it shows
abbrev pub viewed : SlowViewer → Drawing
viewed v = listed (apply_all (ordered v.held) v.base)

-- ---- an event

abbrev pub viewer_offer : SlowViewer → Event → Offer
viewer_offer v e = offered (v.count e.stamp.site) (v.sure e.stamp.site) e.number e.stamp.clock

abbrev pub with_viewed : SlowViewer → Event → SlowViewer
with_viewed v e =
    record v {
      held = v.held ++ e ∷ [];
      count = put v.count e.stamp.site (v.count e.stamp.site + 1);
      sure = put v.sure e.stamp.site e.stamp.clock;
    }

abbrev pub after_viewer_offer : Offer → SlowViewer → Event → SlowViewer
after_viewer_offer Next v e = with_viewed v e
after_viewer_offer Repeat v e = v
after_viewer_offer Gap v e = v
after_viewer_offer (Backdated clock sure) v e = v

-- one event arrives
abbrev pub viewer_arrived : SlowViewer → Event → SlowViewer
viewer_arrived v e = after_viewer_offer (viewer_offer v e) v e

-- one after the other
unfoldable pub viewer_all_arrived : SlowViewer → List Event → SlowViewer
viewer_all_arrived v [] = v
viewer_all_arrived v (e ∷ es) = viewer_all_arrived (viewer_arrived v e) es

-- ---- a frame

-- why a frame with that head is refused, if it is
abbrev pub viewer_refusal : SlowViewer → Head → Option FrameFault
viewer_refusal v head =
    if head.session == v.session then (
    if is_site v.sites head.from then None else Some NoSuchSite)
    else Some Session

abbrev pub viewer_beat : SlowViewer → Frame → SlowViewer
viewer_beat v f =
    if v.count f.head.from == f.head.count
    then record v { sure = put v.sure f.head.from (max (v.sure f.head.from) f.head.clock) }
    else v

abbrev pub viewer_unless_refused : Option FrameFault → SlowViewer → Frame → SlowViewer
viewer_unless_refused (Some fault) v f = v
viewer_unless_refused None v f = viewer_beat (viewer_all_arrived v f.events) f

unfoldable pub viewer_taken : SlowViewer → Frame → SlowViewer
viewer_taken v f = viewer_unless_refused (viewer_refusal v f.head) v f
