-- The parts of a site's snapshot.
use Rattle.std.proofs.Common.{◌≡◌, ℕ, List, length, Result, Ok, Err, sym, ap, ◌∙◌}
use Rattle.std.specs.Prelude.{OnErr}
use Rattle.std.proofs.lemmas.List.{length-map}
use Rattle.std.specs.FinMap as map_of
use Rattle.gd_slots.specs.Slots.{board_of}
use Rattle.gd_drawing.specs.Rules.{drawing_rules}
use Rattle.gd_events.specs.Events.{Event}
use Rattle.gd_events.specs.Sound.{IsOp, IsSound}
use Rattle.gd_base.proofs.Lists.{Every-weaker}
use Rattle.gd_history.proofs.Holding.{seen-events}
use Rattle.gd_history.specs.Entries.{AllOf, events_of}
use Rattle.gd_model.specs.Arrivals.{all_drawn, drawn}
use Rattle.gd_reference.specs.SlowSite.{SlowSite, kept, line}
use Rattle.gd_site.proofs.Stands.{AllOf-entries}
use Rattle.gd_site.specs.Sites.{SiteValue, StandsFor}
use Rattle.gd_snapshots.specs.Snapshots.{Placed, Snapshot}
use Rattle.gd_snapshots.specs.declared.known.Known.{Known}
use Rattle.gd_viewing.specs.Handing.{base_of, known_behind, snapshot_of}

module _ (slow : SlowSite) (s : SiteValue) (stands : StandsFor slow s) where
  -- the entries are the kept events
  pub entries_kept : events_of s.history.entries ≡ all_drawn (kept slow)
  entries_kept = seen-events drawn drawing_rules board_of map_of.empty slow.held (line slow) s.history stands.history

  pub entries_count : length s.history.entries ≡ length (kept slow)
  entries_count = sym (length-map s.history.entries _) ∙ ap length entries_kept ∙ length-map (kept slow) drawn

  pub entries_ops : AllOf (λ e. IsOp e.stamp e.op) (events_of s.history.entries)
  entries_ops = AllOf-entries slow s stands (λ e. IsOp e.stamp e.op)
      (Every-weaker IsSound _ (λ (e : Event) sound. sound.op) slow.held stands.well.sound)

-- a fact that holds in any case holds after an error
pub on_err : {A E P : Type 0} (r : Result A E) → P → OnErr r P
on_err (Ok x) h = tt
on_err (Err e) h = h

-- each part is that of the reference site's snapshot
pub record AreParts (slow : SlowSite) (session site : ℕ) (known : List Known) (objects : List Placed)
    (events : List Event) : Type 0 where
  pub session_is : session ≡ slow.session
  pub site_is : site ≡ slow.me
  pub known_is : known ≡ known_behind slow 0 slow.sites
  pub objects_are : objects ≡ map_of.entries (base_of slow)
  pub events_are : events ≡ kept slow

abbrev pub of_parts : ℕ → ℕ → List Known → List Placed → List Event → Snapshot
of_parts session site known objects events
    = record { session = session; site = site; known = known; objects = objects; kept = events }

pub captured : (slow : SlowSite) (session site : ℕ) (known : List Known) (objects : List Placed) (events : List Event)
    → AreParts slow session site known objects events → of_parts session site known objects events ≡ snapshot_of slow
unfolding snapshot_of
captured slow session site known objects events h =
    λ i. record {
      session = h.session_is i;
      site = h.site_is i;
      known = h.known_is i;
      objects = h.objects_are i;
      kept
          = h.events_are i;
    }
