-- Viewers of a site's snapshot, and which of the events and frames that come to them they take.
use Rattle.std.specs.Prelude.{◌≡◌, ℕ, ◌<◌, ◌≤◌, List, [], ◌∷◌, ◌++◌, Option, Some, None, IsTrue}
use Rattle.std.specs.List.{AllByRecursion}
use Rattle.gd_base.specs.Sites.{is_site}
use Rattle.gd_base.specs.declared.offer.Offer.{Offer}
use Rattle.gd_base.specs.declared.offer.Offer.TheVariants.{Next, Repeat, Gap, Backdated}
use Rattle.gd_base.specs.declared.refusal.FrameFault.{FrameFault}
use Rattle.gd_events.specs.Events.{Event}
use Rattle.gd_events.specs.Ordered.{are_distinct}
use Rattle.gd_grammar.specs.FrameBytes.{Frame}
use Rattle.gd_reference.specs.SlowSite.{SlowSite, kept, line}
use Rattle.gd_viewing.specs.Handing.{base_of}
use Rattle.gd_viewing.specs.SlowViewer.{SlowViewer, viewer_arrived, viewer_offer, viewer_refusal, viewer_taken}

-- ---- what is taken

abbrev pub taken_by : Offer → Event → List Event
taken_by Next e = e ∷ []
taken_by Repeat e = []
taken_by Gap e = []
taken_by (Backdated clock sure) e = []

-- of events that arrive one after the other
unfoldable pub taken_events : SlowViewer → List Event → List Event
taken_events v [] = []
taken_events v (e ∷ es) = taken_by (viewer_offer v e) e ++ taken_events (viewer_arrived v e) es

abbrev pub taken_unless : Option FrameFault → SlowViewer → Frame → List Event
taken_unless (Some fault) v f = []
taken_unless None v f = taken_events v f.events

-- of a frame
abbrev pub taken_of : SlowViewer → Frame → List Event
taken_of v f = taken_unless (viewer_refusal v f.head) v f

-- of frames that come one after the other
unfoldable pub taken_frames : SlowViewer → List Frame → List Event
taken_frames v [] = []
taken_frames v (f ∷ fs) = taken_of v f ++ taken_frames (viewer_taken v f) fs

-- the viewer after these frames
unfoldable pub viewer_all_taken : SlowViewer → List Frame → SlowViewer
viewer_all_taken v [] = v
viewer_all_taken v (f ∷ fs) = viewer_all_taken (viewer_taken v f) fs

-- ---- views

-- an event of a site of the session that isn't above its site's sure clock
pub record IsPassed (sites : ℕ) (sure : ℕ → ℕ) (e : Event) : Type 0 where
  pub by : IsTrue (is_site sites e.stamp.site)
  pub below : e.stamp.clock ≤ sure e.stamp.site

-- The viewer began with the site's snapshot, and has taken these events since, which lie above the site's line.
pub record IsViewOf (slow : SlowSite) (v : SlowViewer) (fresh : List Event) : Type 0 where
  pub session : v.session ≡ slow.session
  pub sites : v.sites ≡ slow.sites
  pub base : v.base ≡ base_of slow
  pub held : v.held ≡ kept slow ++ fresh
  pub above : AllByRecursion (λ e. line slow < e.stamp.clock) fresh
  pub low : (t : ℕ) → IsTrue (is_site slow.sites t) → line slow ≤ v.sure t
  pub passed : AllByRecursion (IsPassed slow.sites v.sure) (slow.held ++ fresh)
  pub distinct : IsTrue (are_distinct (slow.held ++ fresh))
