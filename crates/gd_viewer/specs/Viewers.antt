-- What contracts see of a viewer, and which reference viewer it stands for.
use Rattle.std.specs.Prelude.{◌≡◌, ℕ, zero, suc, ◌+◌, ◌≤◌, length, IsTrue}
use Rattle.std.specs.FinMap as map_of
use Rattle.std.specs.List.{AllByRecursion}
use Rattle.gd_base.specs.Sites.{is_site}
use Rattle.gd_base.specs.declared.ranges.TheConstants.{EVENTS_OF_A_SITE, SITES}
use Rattle.gd_canvas.specs.Slots.{Slots}
use Rattle.gd_slots.specs.Slots.{board_of}
use Rattle.gd_drawing.specs.Rules.{drawing_rules}
use Rattle.gd_events.specs.Ops.{Op}
use Rattle.gd_events.specs.Ordered.{ordered}
use Rattle.gd_history.specs.Histories.{HistoryValue}
use Rattle.gd_history.specs.Holding.{Holds}
use Rattle.gd_model.specs.Arrivals.{all_drawn}
use Rattle.gd_model.specs.Undoing.{Before}
use Rattle.gd_reference.specs.PerSite.{least_of_others}
use Rattle.gd_stable.specs.Heard.{HeardValue, IsHeard, of_site}
use Rattle.gd_viewing.specs.SlowViewer.{SlowViewer, viewer_line}

-- the session; its history; and what is heard of each site
pub record ViewerValue : Type 0 where
  pub session : ℕ
  pub history : HistoryValue Slots Op Before
  pub heard : HeardValue

-- the least of the sure clocks that are stored; 0 is no site
abbrev pub heard_line : HeardValue → ℕ
heard_line h = least_of_others (of_site h.sures) 0 (of_site h.sures 1) h.sites

-- how many events of the sites up to that one were held
unfoldable pub counted_to : (ℕ → ℕ) → ℕ → ℕ
counted_to count zero = 0
counted_to count (suc k) = count (suc k) + counted_to count k

-- What a reference viewer keeps by itself: each held event is of a site of the session, and not above that site's sure
-- clock; no site made more events than it can; and there are no more objects and held events than the sites made.
pub record IsWellViewer (v : SlowViewer) : Type 0 where
  pub some : 1 ≤ v.sites
  pub few : v.sites ≤ SITES
  pub by_members : AllByRecursion (λ e. IsTrue (is_site v.sites e.stamp.site)) v.held
  pub passed : AllByRecursion (λ e. e.stamp.clock ≤ v.sure e.stamp.site) v.held
  pub numbered : (t : ℕ) → v.count t ≤ EVENTS_OF_A_SITE
  pub made : map_of.len v.base + length v.held ≤ counted_to v.count v.sites

-- A viewer stands for a reference viewer that keeps itself well, as all do that begin with a good snapshot, where the
-- session and what is heard of each site agree. Its history has the reference viewer's line, the held events above it,
-- each with the before-value that the fold from the base finds, and the drawing of all.
pub record StandsFor (v : SlowViewer) (s : ViewerValue) : Type 0 where
  pub well : IsWellViewer v
  pub session : s.session ≡ v.session
  pub sites : s.heard.sites ≡ v.sites
  pub counts : (t : ℕ) → IsTrue (is_site v.sites t) → of_site s.heard.counts t ≡ v.count t
  pub sures : (t : ℕ) → IsTrue (is_site v.sites t) → of_site s.heard.sures t ≡ v.sure t
  pub history : Holds drawing_rules board_of v.base (all_drawn (ordered v.held)) (viewer_line v) s.history

-- what is true of every viewer: there is a reference viewer for which it stands
pub record HasSlowViewer (s : ViewerValue) : Type 0 where
  pub slow : SlowViewer
  pub stands : StandsFor slow s
  pub heard : IsHeard s.heard
