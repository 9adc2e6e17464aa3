-- The snapshot that a reference site hands on: what it knows of each site, the drawing of its held events up to its
-- line, and the held events above the line.
use Rattle.std.specs.Prelude.{◌≡◌, ℕ, zero, suc, ◌+◌, List, [], ◌∷◌, ◌==◌, nat_le, if◌then◌else◌, IsTrue, ⊤}
use Rattle.std.specs.List.{filter}
use Rattle.std.specs.FinMap as map_of
use Rattle.gd_base.specs.Sites.{is_site}
use Rattle.gd_base.specs.declared.offer.Offer.TheVariants.{Next}
use Rattle.gd_events.specs.Events.{Event}
use Rattle.gd_events.specs.Ordered.{ordered}
use Rattle.gd_model.specs.Board.{Board, apply_all}
use Rattle.gd_reference.specs.SlowSite.{SlowSite, clock, count, kept, line}
use Rattle.gd_snapshots.specs.Snapshots.{Snapshot}
use Rattle.gd_snapshots.specs.declared.known.Known.{Known}
use Rattle.gd_viewing.specs.SlowViewer.{SlowViewer, viewer_offer, with_viewed}

-- the own clock is the sure clock of the site itself
abbrev pub sure_of : SlowSite → ℕ → ℕ
sure_of slow site = if site == slow.me then clock slow else slow.sure site

abbrev pub known_by : SlowSite → ℕ → Known
known_by slow site = record { count = count slow site; sure = sure_of slow site }

-- of so many sites behind one
unfoldable pub known_behind : SlowSite → ℕ → ℕ → List Known
known_behind slow site zero = []
known_behind slow site (suc k) = known_by slow (site + 1) ∷ known_behind slow (site + 1) k

-- the board of the held events up to the line
abbrev pub base_of : SlowSite → Board
base_of slow = apply_all (filter (λ e. nat_le e.stamp.clock (line slow)) (ordered slow.held)) map_of.empty

unfoldable pub snapshot_of : SlowSite → Snapshot
snapshot_of slow =
    record {
      session = slow.session;
      site = slow.me;
      known = known_behind slow 0 slow.sites;
      objects = map_of.entries (base_of slow);
      kept = kept slow;
    }

-- the events arrive at the viewer one after the other, each as the next one of its site
abbrev pub Follows : SlowViewer → List Event → Type 0
Follows v [] = ⊤
Follows v (e ∷ es) = IsTrue (is_site v.sites e.stamp.site) × (viewer_offer v e ≡ Next) × Follows (with_viewed v e) es
