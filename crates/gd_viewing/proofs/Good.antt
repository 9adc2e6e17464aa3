-- The snapshot of a well site is good.
use Rattle.std.proofs.Common.{◌≡◌, ℕ, zero, suc, ◌+◌, ◌-◌, ◌<◌, ◌≤◌, get_or, true, List, [], ◌∷◌, length, filter}
use Rattle.std.proofs.Common.{Option, Some, None, Contains, refl, sym, ap, ◌∙◌, subst, arith, ◌==◌, le-leb}
use Rattle.std.proofs.Common.{length-append}
use Rattle.std.proofs.lemmas.Bool.{and_from, cond_both, leb-true}
use Rattle.std.specs.FinMap as map_of
use Rattle.std.specs.List.{AllByRecursion as Every}
use Rattle.gd_base.specs.Sites.{is_site}
use Rattle.gd_base.specs.Stamps.{Stamp, stamp_cmp, is_before}
use Rattle.gd_base.specs.declared.ranges.TheConstants.{CLOCK_LIMIT}
use Rattle.gd_base.proofs.Lists.{Every-weaker}
use Rattle.gd_base.proofs.SiteLemmas.{is_site-bounds}
use Rattle.gd_drawing.proofs.Sizes.{len-apply_all, length-ordered}
use Rattle.gd_events.specs.Events.{Event}
use Rattle.gd_events.specs.Ordered.{ordered}
use Rattle.gd_events.specs.Sound.{IsSound, is_above}
use Rattle.gd_events.proofs.OrderLemmas.{InOrder-ordered}
use Rattle.gd_grammar.specs.Reading.{AllFollow}
use Rattle.gd_base.specs.Whole.{Object}
use Rattle.gd_model.specs.Board.{apply_all}
use Rattle.gd_protocol.proofs.Chains.{greatest_clock-bound}
use Rattle.gd_protocol.proofs.Drawn.{every-ordered}
use Rattle.gd_protocol.proofs.Members.{contains_made, every_contained, every_from_contained, made_contains}
use Rattle.gd_protocol.proofs.WellSites.{well_distinct}
use Rattle.gd_protocol.specs.Sites.{IsWell}
use Rattle.gd_reference.specs.SlowSite.{SlowSite, clock, count, kept, line, made_by}
use Rattle.gd_snapshots.specs.Snapshots.{IsKept, IsKnown, IsPlaced, IsSnapshot, id_of, is_bounded, known_of, least_sure}
use Rattle.gd_snapshots.specs.Snapshots.{stamp_of, total, unknown}
use Rattle.gd_snapshots.specs.declared.known.Known.{Known}
use Rattle.gd_viewing.proofs.Arriving.{held_below}
use Rattle.gd_viewing.proofs.Known.{known_is, length-known, line_above}
use Rattle.gd_viewing.proofs.Lists.{Every-filter, every-passing}
use Rattle.gd_viewing.proofs.Objects.{placed_in_range}
use Rattle.gd_viewing.proofs.Rising.{AreRising, filtered_rise, ordered_rise}
use Rattle.gd_viewing.proofs.Sides.{filter-ordered, is_high, is_low, split}
use Rattle.gd_viewing.proofs.Tallies.{all_counted, few_made, numbered_within, total-known}
use Rattle.gd_viewing.specs.Handing.{base_of, known_behind, known_by, snapshot_of}

-- ---- the line of a list of what is known

least_at : (ks : List Known) (i : ℕ) → i < length ks → least_sure ks ≤ (get_or ks i unknown).sure
unfolding least_sure
least_at [] i h = absurd (omega (arith, h))
least_at (k ∷ []) zero h = omega arith
least_at (k ∷ []) (suc i) h = absurd (omega (arith, h))
least_at (k ∷ j ∷ ks) zero h = omega arith
least_at (k ∷ j ∷ ks) (suc i) h = omega (arith, least_at (j ∷ ks) i (omega (arith, h)))

module _ (slow : SlowSite) (well : IsWell slow) where
  abbrev all_known : List Known
  all_known = known_behind slow 0 slow.sites

  least_below : least_sure all_known ≤ line slow
  least_below =
      line_above slow (least_sure all_known) well.member
      (λ t inside.
      let bounds = is_site-bounds slow.sites t inside in
      let low = least_at all_known (t - 1) (omega (arith, bounds.0, bounds.1, length-known slow 0 slow.sites)) in
      omega (arith, low, ap (λ (k : Known). k.sure) (known_is slow t inside)))

  -- ---- what is known of the sites

  sound_made : (t : ℕ) → Every IsSound (made_by t slow.held)
  sound_made t = every_from_contained IsSound (made_by t slow.held)
      (λ e m. every_contained IsSound slow.held e well.sound (contains_made t slow.held e m))

  clock_fits : clock slow < CLOCK_LIMIT
  clock_fits =
      let bound = greatest_clock-bound (CLOCK_LIMIT - 1) slow.held
      (Every-weaker IsSound _ (λ (e : Event) s. let fits = s.stamp.clock_below in omega (arith, fits)) slow.held
      well.sound) in
      omega (arith, bound)

  known_good : (t : ℕ) → IsKnown (known_by slow t)
  known_good t =
      record {
        count = let few = few_made t 0 0 (made_by t slow.held) (well.chains t) (sound_made t) (omega arith)
            in omega (arith, few);
        sure = cond_both (t == slow.me) (clock slow) (slow.sure t) (λ n. n < CLOCK_LIMIT) (λ mine. clock_fits)
            (λ other. well.clocked t);
      }

  all_known_good : (site k : ℕ) → Every IsKnown (known_behind slow site k)
  unfolding known_behind
  all_known_good site zero = tt
  all_known_good site (suc k) = (known_good (site + 1), all_known_good (site + 1) k)

  -- ---- the kept events

  bounded : (e : Event) → Contains slow.held e → line slow < e.stamp.clock → is_bounded all_known e ≡ true
  bounded e m above =
      let t = e.stamp.site in
      let inside = every_contained (λ (f : Event). is_site slow.sites f.stamp.site ≡ true) slow.held e well.by_members m
      in
      let bounds = is_site-bounds slow.sites t inside in
      let its = known_is slow t inside in
      let number = every_contained (λ (f : Event). f.number ≤ 0 + count slow t) (made_by t slow.held) e
      (numbered_within t 0 0 (made_by t slow.held) (well.chains t)) (made_contains slow.held e m) in
      let sure = held_below slow well e m in
      and_from _ _ (le-leb t (length all_known) (omega (arith, bounds.1, length-known slow 0 slow.sites)))
      (and_from _ _ (le-leb e.number (known_of all_known t).count
      (omega (arith, number, ap (λ (k : Known). k.count) its)))
      (and_from _ _ (le-leb (suc (least_sure all_known)) e.stamp.clock (omega (arith, above, least_below)))
      (le-leb e.stamp.clock (known_of all_known t).sure (omega (arith, sure, ap (λ (k : Known). k.sure) its)))))

  pub record IsFine (e : Event) : Type 0 where
    pub sound : IsSound e
    pub bounded : is_bounded all_known e ≡ true

  kept_fine : Every IsFine (kept slow)
  kept_fine =
      every-passing IsFine (is_high (line slow)) (ordered slow.held)
      (every-ordered _ slow.held
      (every_from_contained _ slow.held (λ e m high. record {
        sound = every_contained IsSound slow.held e well.sound m;
        bounded = bounded e m (leb-true (suc (line slow)) e.stamp.clock high);
      })))

  -- the last one is before all of these, if there is one
  abbrev IsBefore : Option Stamp → List Event → Type 0
  IsBefore None es = Unit {0}
  IsBefore (Some last) es = Every (λ e. is_before last e.stamp ≡ true) es

  above_last : (last : Option Stamp) (e : Event) (es : List Event) → IsBefore last (e ∷ es)
      → is_above last e.stamp ≡ true
  above_last None e es h = refl
  above_last (Some last) e es h = h.0

  kept_behind : (last : Option Stamp) (es : List Event) → AreRising es → IsBefore last es → Every IsFine es
      → AllFollow (IsKept all_known) stamp_of last es
  unfolding AllFollow
  kept_behind last [] rise before fine = tt
  kept_behind last (e ∷ es) rise before fine = (
    record { sound = fine.0.sound; above = above_last last e es before; bounded = fine.0.bounded },
    kept_behind (Some e.stamp) es rise.1 rise.0 fine.1,
  )

  kept_good : AllFollow (IsKept all_known) stamp_of None (kept slow)
  kept_good = kept_behind None (kept slow)
      (filtered_rise (is_high (line slow)) (ordered slow.held) (ordered_rise slow.held (well_distinct slow well))) tt
      kept_fine

  -- ---- the objects

  abbrev low_events : List Event
  low_events = filter (is_low (line slow)) (ordered slow.held)

  objects_good : AllFollow IsPlaced id_of None (map_of.entries (base_of slow))
  objects_good =
      let low = filter (is_low (line slow)) slow.held in
      subst (λ (es : List Event). AllFollow IsPlaced id_of None (map_of.entries (apply_all es map_of.empty)))
      (sym (filter-ordered (is_low (line slow)) slow.held))
      (placed_in_range low (Every-filter IsSound (is_low (line slow)) slow.held well.sound))

  few_objects : length (map_of.entries (base_of slow)) + length (kept slow) ≤ total all_known
  few_objects =
      let most = len-apply_all low_events map_of.empty in
      let none = map_of.len-empty stamp_cmp Object in
      let count = map_of.len-entries (base_of slow) in
      let parts : length (ordered slow.held)
      ≡ length low_events + length (kept slow)
      = ap (λ (l : List Event). length l) (split (line slow) (ordered slow.held) (InOrder-ordered slow.held))
      ∙ length-append low_events (kept slow) in
      omega (
        arith,
        most,
        none,
        count,
        parts,
        length-ordered slow.held,
        all_counted slow.sites slow.held
            well.by_members,
        total-known slow 0 slow.sites,
      )

pub snapshot_good : (slow : SlowSite) → IsWell slow → IsSnapshot (snapshot_of slow)
unfolding snapshot_of
snapshot_good slow well =
    let member = is_site-bounds slow.sites slow.me well.member in
    let count = length-known slow 0 slow.sites in
    record {
      session = well.met.2;
      site_above = omega (arith, member.0);
      site_below = omega (arith, member.1, count);
      few = let few = well.met.1 in omega (arith, few, count);
      known = all_known_good slow well 0 slow.sites;
      objects = objects_good slow well;
      kept = kept_good slow well;
      made = few_objects slow well;
    }
