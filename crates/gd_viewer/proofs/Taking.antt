-- A viewer that takes the next event of a site stands for the reference viewer that took it.
use Rattle.std.proofs.Common.{◌≡◌, ◌≢◌, ℕ, suc, ◌+◌, ◌<◌, ◌≤◌, Bool, false, cond, nat_le, nat_lt, List, [], ◌∷◌, ◌++◌}
use Rattle.std.proofs.Common.{length, refl, sym, ap, ap₂, ◌∙◌, subst, arith, IsTrue}
use Rattle.std.proofs.lemmas.Bool.{leb-false}
use Rattle.std.proofs.lemmas.List.{length-append}
use Rattle.std.specs.List.{AllByRecursion as Every}
use Rattle.gd_base.specs.Sites.{is_site}
use Rattle.gd_base.specs.Stamps.{Stamp}
use Rattle.gd_base.specs.declared.offer.Offer.TheVariants.{Next, Repeat, Gap, Backdated}
use Rattle.gd_base.proofs.Lists.{Every-append, Every-weaker}
use Rattle.gd_base.proofs.SiteLemmas.{is_site-bounds}
use Rattle.gd_events.specs.Events.{Event}
use Rattle.gd_events.specs.Sound.{IsSound}
use Rattle.gd_history.specs.Entries.{events_of}
use Rattle.gd_history.specs.Holding.{Trimmed}
use Rattle.gd_history.specs.Orders.{HasNone}
use Rattle.gd_protocol.proofs.Lists.{put_cases, put_same, put_other}
use Rattle.gd_protocol.proofs.Rising.{raised}
use Rattle.gd_reference.specs.Offers.{offered}
use Rattle.gd_reference.specs.PerSite.{put}
use Rattle.gd_site.proofs.Numbers.{length-put, of_site-put}
use Rattle.gd_stable.specs.Heard.{HeardValue, IsHeard, of_site, put_at, with_taken}
use Rattle.gd_viewing.specs.SlowViewer.{SlowViewer, viewer_line, viewer_offer, with_viewed}
use Rattle.gd_viewer.specs.Viewers.{ViewerValue, IsWellViewer, StandsFor, HasSlowViewer, heard_line}
use Rattle.gd_viewer.proofs.Counted.{counted_to-more}
use Rattle.gd_viewer.proofs.Standing.{AllOf-entries, Enters, History, Keeps, keeps_entered, keeps_trimmed, line_agrees}
use Rattle.gd_viewer.proofs.Standing.{line_below, line_rises}

-- ---- the next event

-- it is numbered one above those that are held, and its clock is above the sure clock
pub record IsNext (count sure : ℕ) (e : Event) : Type 0 where
  pub number : e.number ≡ count + 1
  pub above : sure < e.stamp.clock

pub is_next : (count sure : ℕ) (e : Event) → offered count sure e.number e.stamp.clock ≡ Next → IsNext count sure e
unfolding offered
is_next count sure e h
    = go (nat_le e.number count) (nat_lt (count + 1) e.number) (nat_le e.stamp.clock sure) refl refl refl h
  where
    go : (a b c : Bool) → nat_le e.number count ≡ a → nat_lt (count + 1) e.number ≡ b → nat_le e.stamp.clock sure ≡ c
        → cond a Repeat (cond b Gap (cond c (Backdated e.stamp.clock sure) Next)) ≡ Next → IsNext count sure e
    go false false false held gap low n =
        record {
          number = omega (arith, leb-false e.number count held, leb-false (suc (count + 1)) e.number gap);
          above
              = leb-false e.stamp.clock sure low;
        }
    go a b c held gap low n = cc

pub is_later : (count sure : ℕ) (e : Event) → offered count sure e.number e.stamp.clock ≡ Next → sure < e.stamp.clock
is_later count sure e next = (is_next count sure e next).above

pub has_room : (count sure : ℕ) (e : Event) → IsSound e → offered count sure e.number e.stamp.clock ≡ Next
    → count < 65535
has_room count sure e sound next = let ahead = is_next count sure e next
    in omega (arith, ahead.number, sound.number_fits)

-- ---- a reference viewer that takes it

module _ (v : SlowViewer) (well : IsWellViewer v) (e : Event) (sound : IsSound e)
    (inside : IsTrue (is_site v.sites e.stamp.site)) (next : IsNext (v.count e.stamp.site) (v.sure e.stamp.site) e)
  where
    pub taken_rises : (t : ℕ) → v.sure t ≤ put v.sure e.stamp.site e.stamp.clock t
    taken_rises = raised v.sure e.stamp.site e.stamp.clock (omega (arith, next.above))

    taken_passed : Every (λ f. f.stamp.clock ≤ put v.sure e.stamp.site e.stamp.clock f.stamp.site) (v.held ++ e ∷ [])
    taken_passed =
        Every-append _ v.held (e ∷ [])
        (Every-weaker _ _ (λ (f : Event) (le : f.stamp.clock ≤ v.sure f.stamp.site). omega
        (arith, le, taken_rises f.stamp.site)) v.held well.passed)
        (omega (arith, put_same v.sure e.stamp.site e.stamp.clock e.stamp.site refl), tt)

    pub well_taken : IsWellViewer (with_viewed v e)
    well_taken =
        let bounds = is_site-bounds v.sites e.stamp.site inside in
        record {
          some = well.some;
          few = well.few;
          by_members = Every-append _ v.held (e ∷ []) well.by_members (inside, tt);
          passed = taken_passed;
          numbered = put_cases (λ (t n : ℕ). n ≤ 65535) v.count e.stamp.site (v.count e.stamp.site + 1)
              (omega (arith, next.number, sound.number_fits)) (λ t ne. well.numbered t);
          made = omega (
            arith,
            well.made,
            counted_to-more v.count e.stamp.site v.sites bounds.0 bounds.1,
            length-append
                v.held (e ∷ []),
          );
        }

-- where those of its site have lower clocks, none has its stamp
pub none_same : (held : List Event) (sure : ℕ → ℕ) (e : Event) → Every (λ f. f.stamp.clock ≤ sure f.stamp.site) held
    → sure e.stamp.site < e.stamp.clock → Every (λ f. f.stamp ≢ e.stamp) held
none_same held sure e passed above = Every-weaker _ (λ f. f.stamp ≢ e.stamp) apart held passed
  where
    apart : (f : Event) → f.stamp.clock ≤ sure f.stamp.site → f.stamp ≢ e.stamp
    apart f le same =
        let clocks = ap (λ (x : Stamp). x.clock) same in
        let sures = ap (λ (x : Stamp). sure x.site) same in
        omega (arith, le, above, clocks, sures)

-- ---- what is heard then

module _ (h : HeardValue) (sized : IsHeard h) (site : ℕ) (low : 1 ≤ site) (high : site ≤ h.sites) (value : ℕ) where
  -- the numbers of sites, with that of one replaced
  pub heard_put : (numbers : List ℕ) → length numbers ≡ 16 → (Is : ℕ → Type 0) → ((t : ℕ) → Is t → 1 ≤ t) → (f : ℕ → ℕ)
      → ((t : ℕ) → Is t → of_site numbers t ≡ f t)
      → (t : ℕ) → Is t → of_site (put_at numbers site value) t ≡ put f site value t
  heard_put numbers long Is from f are t is =
      of_site-put numbers site value t long low (omega (arith, high, sized.sites_to)) (from t is)
      ∙ put_cases (λ (u n : ℕ). Is u → n ≡ put f site value u) (of_site numbers) site value
      (λ k. sym (put_same f site value site refl))
      (λ u ne k. are u k ∙ sym (put_other f site value u ne)) t is

pub sized_with : (h : HeardValue) (site count sure : ℕ) → IsHeard h
    → IsHeard (record h { counts = put_at h.counts site count; sures = put_at h.sures site sure })
sized_with h site count sure sized = record {
  sites_to = sized.sites_to;
  counts = length-put h.counts site count sized.counts;
  sures = length-put h.sures site sure sized.sures;
}

-- ---- what the calls of `take` leave

pub record Taken (s : ViewerValue) (e : Event) (entered : History) (heard : HeardValue) (higher : ℕ) : Type 0 where
  pub sound : IsSound e
  pub inside : IsTrue (is_site s.heard.sites e.stamp.site)
  pub next : offered (of_site s.heard.counts e.stamp.site) (of_site s.heard.sures e.stamp.site) e.number e.stamp.clock
      ≡ Next
  pub sized : IsHeard s.heard
  pub heard_is : heard ≡ with_taken s.heard e.stamp.site e.stamp.clock
  pub higher_is : higher ≡ heard_line heard
  pub enters : Enters s.history e entered

module _ (s : ViewerValue) (e : Event) (sound : IsSound e) (inside : IsTrue (is_site s.heard.sites e.stamp.site))
    (next : offered (of_site s.heard.counts e.stamp.site) (of_site s.heard.sures e.stamp.site) e.number e.stamp.clock
    ≡ Next) where
  module _ (v : SlowViewer) (stands : StandsFor v s) where
    there : IsTrue (is_site v.sites e.stamp.site)
    there = subst (λ (n : ℕ). IsTrue (is_site n e.stamp.site)) stands.sites inside

    offer_is : viewer_offer v e ≡ Next
    offer_is = sym (ap₂ (λ (n c : ℕ). offered n c e.number e.stamp.clock) (stands.counts e.stamp.site there)
        (stands.sures e.stamp.site there)) ∙ next

    its_next : IsNext (v.count e.stamp.site) (v.sure e.stamp.site) e
    its_next = is_next (v.count e.stamp.site) (v.sure e.stamp.site) e offer_is

    pub taken_above : viewer_line v < e.stamp.clock
    taken_above = omega (arith, its_next.above, line_below v e.stamp.site there)

    pub above_line : s.history.line < e.stamp.clock
    above_line = omega (arith, taken_above, stands.history.line_is)

    pub is_fresh : HasNone e.stamp (events_of s.history.entries)
    is_fresh = AllOf-entries v s stands (λ f. f.stamp ≢ e.stamp)
        (none_same v.held v.sure e stands.well.passed its_next.above)

    well : IsWellViewer (with_viewed v e)
    well = well_taken v stands.well e sound there its_next

    line_up : viewer_line v ≤ viewer_line (with_viewed v e)
    line_up = line_rises v.sites v.sure (put v.sure e.stamp.site e.stamp.clock) stands.well.some
        (taken_rises v stands.well e sound there its_next)

    module _ (sized : IsHeard s.heard) where
      abbrev now : HeardValue
      now = with_taken s.heard e.stamp.site e.stamp.clock

      from_one : (t : ℕ) → IsTrue (is_site v.sites t) → 1 ≤ t
      from_one t h = (is_site-bounds v.sites t h).0

      new_sure : (t : ℕ) → IsTrue (is_site v.sites t) → of_site now.sures t ≡ put v.sure e.stamp.site e.stamp.clock t
      new_sure =
          let bounds = is_site-bounds s.heard.sites e.stamp.site inside in
          heard_put s.heard sized e.stamp.site bounds.0 bounds.1 e.stamp.clock s.heard.sures sized.sures
          (λ t. IsTrue (is_site v.sites t)) from_one v.sure stands.sures

      new_count : (t : ℕ) → IsTrue (is_site v.sites t)
          → of_site now.counts t ≡ put v.count e.stamp.site (v.count e.stamp.site + 1) t
      new_count t h =
          let bounds = is_site-bounds s.heard.sites e.stamp.site inside in
          heard_put s.heard sized e.stamp.site bounds.0 bounds.1 (of_site s.heard.counts e.stamp.site + 1)
          s.heard.counts sized.counts (λ t. IsTrue (is_site v.sites t)) from_one v.count stands.counts t h
          ∙ ap (λ (n : ℕ). put v.count e.stamp.site (n + 1) t) (stands.counts e.stamp.site there)

      line_new : heard_line now ≡ viewer_line (with_viewed v e)
      line_new = line_agrees (with_viewed v e) now stands.well.some stands.sites new_sure

      module _ (entered : History) (enters : Enters s.history e entered) where
        line_higher : entered.line ≤ heard_line now
        line_higher = omega (arith, enters.line, stands.history.line_is, line_up, line_new)

        module _ (trimmed : History) (trims : Trimmed entered (heard_line now) trimmed) where
          after_it : Keeps v.base (v.held ++ e ∷ []) (viewer_line (with_viewed v e)) trimmed
          after_it =
              subst (λ (l : ℕ). Keeps v.base (v.held ++ e ∷ []) l trimmed) line_new
              (keeps_trimmed v.base (v.held ++ e ∷ []) (viewer_line v) entered
              (keeps_entered v.base v.held (viewer_line v) s.history stands.history e taken_above entered enters)
              (heard_line now) (omega (arith, line_up, line_new)) trimmed trims)

          stands_now : StandsFor (with_viewed v e) (record { session = s.session; history = trimmed; heard = now })
          stands_now = record {
            well = well;
            session = stands.session;
            sites = stands.sites;
            counts = new_count;
            sures = new_sure;
            history = after_it;
          }

module _ (s : ViewerValue) (e : Event) (entered : History) (heard : HeardValue) (higher : ℕ)
    (t : Taken s e entered heard higher) where
  higher_now : higher ≡ heard_line (with_taken s.heard e.stamp.site e.stamp.clock)
  higher_now = t.higher_is ∙ ap heard_line t.heard_is

  pub taken_line : HasSlowViewer s → entered.line ≤ higher
  taken_line i = omega (
    arith,
    higher_now,
    line_higher s e t.sound t.inside t.next i.slow i.stands t.sized entered
        t.enters,
  )

  abbrev pub taken_viewer : History → ViewerValue
  taken_viewer trimmed = record { session = s.session; history = trimmed; heard = heard }

  module _ (trimmed : History) (trims : Trimmed entered higher trimmed) where
    pub taken_stands : (v : SlowViewer) → StandsFor v s → StandsFor (with_viewed v e) (taken_viewer trimmed)
    taken_stands v stands =
        subst (λ (h : HeardValue). StandsFor (with_viewed v e)
        (record { session = s.session; history = trimmed; heard = h })) (sym t.heard_is)
        (stands_now s e t.sound t.inside t.next v stands t.sized entered t.enters trimmed
        (subst (λ (l : ℕ). Trimmed entered l trimmed) higher_now trims))

    pub taken_is_viewer : HasSlowViewer s → HasSlowViewer (taken_viewer trimmed)
    taken_is_viewer i = record {
      slow = with_viewed i.slow e;
      stands = taken_stands i.slow i.stands;
      heard = subst IsHeard (sym t.heard_is)
          (sized_with s.heard e.stamp.site (of_site s.heard.counts e.stamp.site + 1) e.stamp.clock t.sized);
    }

-- there is a site then too
pub some_taken : (s : ViewerValue) (site clock : ℕ) (heard : HeardValue) → heard ≡ with_taken s.heard site clock
    → HasSlowViewer s → 1 ≤ heard.sites
some_taken s site clock heard is i
    = omega (arith, ap (λ (h : HeardValue). h.sites) is, i.stands.sites, i.stands.well.some)
