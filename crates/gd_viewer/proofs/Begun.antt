-- A viewer that begins with a good snapshot keeps itself well, and stands for the reference viewer that does.
use Rattle.std.proofs.Common.{◌≡◌, ℕ, zero, suc, ◌+◌, ◌-◌, ◌<◌, ◌≤◌, Bool, true, false, nat_le, nat_lt, cond, List, []}
use Rattle.std.proofs.Common.{◌∷◌, ◌++◌, length, get_or, take, refl, sym, ap, ◌∙◌, subst, arith, Option, IsTrue}
use Rattle.std.proofs.lemmas.Bool.{and_parts, leb-false, leb-true}
use Rattle.std.proofs.lemmas.List.{get_or_past, take_all, take_more}
use Rattle.std.proofs.lemmas.List.Sums.{sum-map, sum_by_push}
use Rattle.std.specs.FinMap as map_of
use Rattle.std.specs.List.{AllByRecursion as Every, sum_by}
use Rattle.gd_arriving.specs.Arriving.{AreAbove}
use Rattle.gd_base.specs.Stamps.{Stamp, stamp_cmp}
use Rattle.gd_base.specs.declared.ranges.TheConstants.{SESSION_EVENTS}
use Rattle.gd_base.proofs.Lists.{Every-get_or, Every-weaker}
use Rattle.gd_base.proofs.SiteLemmas.{is_site-within}
use Rattle.gd_base.specs.StampTotal.{stamp_cmp-total}
use Rattle.gd_canvas.specs.Slots.{Slots}
use Rattle.gd_slots.specs.Slots.{board_of}
use Rattle.gd_events.specs.Events.{Event}
use Rattle.gd_events.specs.Ordered.{are_distinct}
use Rattle.gd_grammar.specs.Reading.{AllFollow}
use Rattle.gd_base.specs.Whole.{Object}
use Rattle.gd_model.specs.Board.{Board}
use Rattle.gd_snapshots.specs.Snapshots.{IsKept, IsKnown, IsPlaced, IsSnapshot, Placed, Snapshot, known_of, least_sure}
use Rattle.gd_snapshots.specs.Snapshots.{stamp_of, total, unknown}
use Rattle.gd_snapshots.specs.declared.known.Known.{Known}
use Rattle.gd_stable.specs.Heard.{HeardValue}
use Rattle.gd_viewing.specs.SlowViewer.{opened, viewer_line}
use Rattle.gd_viewer.specs.Opening.{Hears, Rise}
use Rattle.gd_viewer.specs.Viewers.{ViewerValue, IsWellViewer, StandsFor, HasSlowViewer, counted_to, heard_line}
use Rattle.gd_viewer.proofs.Counted.{counted_to-few}
use Rattle.gd_viewer.proofs.Rising.{rise_distinct, rise_follow}
use Rattle.gd_viewer.proofs.Standing.{History, Keeps, line_agrees, line_below}

-- ---- how many events there were

counted_first : (known : List Known) (k : ℕ) → k ≤ length known
    → counted_to (λ t. (known_of known t).count) k ≡ sum_by (λ x. x.count) (take k known)
unfolding counted_to
counted_first known zero h = refl
counted_first known (suc k) h =
    let place : suc k - 1 ≡ k = omega arith in
    let here : (known_of known (suc k)).count
    ≡ (get_or known k unknown).count = ap (λ (n : ℕ). (get_or known n unknown).count) place in
    let next : suc k ≡ k + 1 = omega arith in
    let one : take (suc k) known ≡ take k known ++ get_or known k unknown ∷ [] = ap (λ (n : ℕ). take n known) next
    ∙ take_more known k unknown (omega (arith, h)) in
    let all : sum_by (λ (x : Known). x.count) (take (suc k) known)
    ≡ sum_by (λ (x : Known). x.count) (take k known) + (get_or known k unknown).count =
    ap (sum_by (λ (x : Known). x.count)) one
    ∙ sum_by_push (λ (x : Known). x.count) (take k known) (get_or known k unknown) in
    omega (arith, counted_first known k (omega (arith, h)), here, all)

counted_all : (known : List Known) → counted_to (λ t. (known_of known t).count) (length known) ≡ total known
counted_all known = counted_first known (length known) (omega arith)
    ∙ ap (sum_by (λ x. x.count)) (take_all (length known) known (omega arith))
    ∙ sym (sum-map (λ (x : Known). x.count) known)

one_more : (t : Bool) (n : ℕ) → cond t n (n + 1) ≤ n + 1
one_more true n = omega arith
one_more false n = omega arith

-- a map has at most as many objects as are put into it
len-entries : (ps : List Placed) → map_of.len (map_of.from_entries {R = stamp_cmp} ps) ≤ length ps
len-entries [] = let none = map_of.len-empty stamp_cmp Object in omega (arith, none)
len-entries (p ∷ ps) =
    let m = map_of.from_entries {R = stamp_cmp} ps in
    omega (
      arith,
      map_of.len-insert stamp_cmp-total m p.0 p.1,
      one_more (map_of.contains_key m p.0) (map_of.len m),
      len-entries ps,
    )

-- ---- the line

-- what is at most each sure clock is at most the least of them
least_above : (known : List Known) (n : ℕ) → 1 ≤ length known
    → ((i : ℕ) → i < length known → n ≤ (get_or known i unknown).sure) → n ≤ least_sure known
unfolding least_sure
least_above [] n some low = absurd (omega (arith, some))
least_above (k ∷ []) n some low = low 0 (omega arith)
least_above (k ∷ j ∷ ks) n some low =
    let rest = least_above (j ∷ ks) n (omega arith) (λ i inside. low (suc i) (omega (arith, inside))) in
    omega (arith, low 0 (omega arith), rest)

-- ---- what is kept

-- an event is in the bounds of what is known
pub record IsBounded (known : List Known) (e : Event) : Type 0 where
  pub low : 1 ≤ e.stamp.site
  pub site : e.stamp.site ≤ length known
  pub above : least_sure known < e.stamp.clock
  pub sure : e.stamp.clock ≤ (known_of known e.stamp.site).sure

bounded : (known : List Known) (last : Option Stamp) (e : Event) → IsKept known last e → IsBounded known e
bounded known last e k =
    let one = and_parts (nat_le e.stamp.site (length known)) _ k.bounded in
    let two = and_parts (nat_le e.number (known_of known e.stamp.site).count) _ one.1 in
    let three = and_parts (nat_lt (least_sure known) e.stamp.clock)
    (nat_le e.stamp.clock (known_of known e.stamp.site).sure) two.1 in
    record {
      low = k.sound.stamp.site_above;
      site = leb-true e.stamp.site (length known) one.0;
      above = leb-true (suc (least_sure known)) e.stamp.clock three.0;
      sure = leb-true e.stamp.clock (known_of known e.stamp.site).sure three.1;
    }

all_bounded : (known : List Known) (last : Option Stamp) (es : List Event) → AllFollow (IsKept known) stamp_of last es
    → Every (IsBounded known) es
unfolding AllFollow
all_bounded known last [] h = tt
all_bounded known last (e ∷ es) h = (bounded known last e h.0, all_bounded known (stamp_of e) es h.1)

pub objects_rise : (s : Snapshot) → IsSnapshot s → Rise (λ p. p.0) s.objects
objects_rise s good = rise_follow (λ p. p.0) IsPlaced (λ last p k. k.above) _ s.objects good.objects

pub kept_distinct : (s : Snapshot) → IsSnapshot s → IsTrue (are_distinct s.kept)
kept_distinct s good = rise_distinct s.kept
    (rise_follow (λ e. e.stamp) (IsKept s.known) (λ last e k. k.above) _ s.kept good.kept)

-- ---- the viewer

module _ (s : Snapshot) (good : IsSnapshot s) where
  fine : Every (IsBounded s.known) s.kept
  fine = all_bounded s.known _ s.kept good.kept

  counts_few : (t : ℕ) → (known_of s.known t).count ≤ 65535
  counts_few t = go (nat_lt (t - 1) (length s.known)) refl
    where
      past : length s.known < suc (t - 1) → length s.known ≤ t - 1
      past h = omega (arith, h)

      go : (b : Bool) → nat_lt (t - 1) (length s.known) ≡ b → (known_of s.known t).count ≤ 65535
      go true inside = let fits
          = (Every-get_or IsKnown s.known (t - 1) unknown good.known
          (leb-true (suc (t - 1)) (length s.known) inside)).count in omega (arith, fits)
      go false outside = omega (
        arith,
        ap (λ (k : Known). k.count)
            (get_or_past s.known (t - 1) unknown (past (leb-false (suc (t - 1)) (length s.known) outside))),
      )

  -- no more events than a session can have
  pub kept_few : length s.kept ≤ SESSION_EVENTS
  kept_few = omega (
    arith,
    good.made,
    counted_all s.known,
    good.few,
    counted_to-few (λ t. (known_of s.known t).count)
        (length s.known) counts_few,
  )

  pub well_begun : IsWellViewer (opened s)
  unfolding opened
  well_begun = record {
    some = omega (arith, good.site_above, good.site_below);
    few = good.few;
    by_members = Every-weaker _ _
        (λ (e : Event) (b : IsBounded s.known e). is_site-within (length s.known) e.stamp.site b.low b.site) s.kept
        fine;
    passed = Every-weaker _ _ (λ (e : Event) (b : IsBounded s.known e). b.sure) s.kept fine;
    numbered = counts_few;
    made = omega (arith, len-entries s.objects, good.made, counted_all s.known);
  }

  module _ (h : HeardValue) (hears : Hears s.known h) where
    pub some_heard : 1 ≤ h.sites
    some_heard = omega (arith, hears.sites, good.site_above, good.site_below)

    line_is : heard_line h ≡ viewer_line (opened s)
    unfolding opened
    line_is = line_agrees (opened s) h well_begun.some hears.sites hears.sures

    line_low : heard_line h ≤ least_sure s.known
    unfolding opened
    line_low =
        least_above s.known (heard_line h) (omega (arith, good.site_above, good.site_below)) (λ i inside.
        let place : i + 1 - 1 ≡ i = omega arith in
        let here : (known_of s.known (i + 1)).sure
        ≡ (get_or s.known i unknown).sure = ap (λ (n : ℕ). (get_or s.known n unknown).sure) place in
        let below : viewer_line (opened s) ≤ (known_of s.known (i + 1)).sure
        = line_below (opened s) (i + 1)
        (is_site-within (length s.known) (i + 1) (omega arith) (omega (arith, inside))) in
        omega (arith, line_is, below, here))

    pub kept_above : AreAbove (heard_line h) s.kept
    kept_above =
        Every-weaker _ (λ (e : Event). 1 ≤ e.stamp.clock → heard_line h < e.stamp.clock)
        (λ (e : Event) (b : IsBounded s.known e) (some : 1 ≤ e.stamp.clock). omega (arith, b.above, line_low))
        s.kept fine

    module _ (canvas : Slots) (drawn : board_of canvas ≡ map_of.from_entries s.objects) (history : History)
        (keeps : Keeps (board_of canvas) s.kept (heard_line h) history) where
      abbrev pub begun : ViewerValue
      begun = record { session = s.session; history = history; heard = h }

      pub begun_stands : StandsFor (opened s) begun
      unfolding opened
      begun_stands = record {
        well = well_begun;
        session = refl;
        sites = hears.sites;
        counts = hears.counts;
        sures = hears.sures;
        history = subst (λ (l : ℕ). Keeps (map_of.from_entries s.objects) s.kept l history) line_is
            (subst (λ (b : Board). Keeps b s.kept (heard_line h) history) drawn keeps);
      }

      pub begun_is_viewer : HasSlowViewer begun
      begun_is_viewer = record { slow = opened s; stands = begun_stands; heard = hears.sized }
