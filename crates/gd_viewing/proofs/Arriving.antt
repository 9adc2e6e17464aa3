-- What a viewer of a snapshot holds, and what it knows of the sites, as events arrive at it.
use Rattle.std.proofs.Common.{◌≡◌, ℕ, suc, ◌+◌, ◌<◌, ◌≤◌, Bool, true, false, cond, not, List, [], ◌∷◌, ◌++◌, filter}
use Rattle.std.proofs.Common.{Contains, refl, sym, ap, ◌∙◌, subst, append-nil, append_assoc, nat_le, nat_lt, arith}
use Rattle.std.proofs.Common.{◌==◌, eqb-true, max, Option, Some, None, le-leb}
use Rattle.std.proofs.lemmas.Bool.{and_parts, cond_both, eqb-false, false_from_ne_true, leb-false, not_from_false}
use Rattle.std.proofs.lemmas.List.Folds.{list_all-append}
use Rattle.std.specs.List.{AllByRecursion as Every}
use Rattle.gd_backs.proofs.NextEvents.{every_below}
use Rattle.gd_base.specs.Sites.{is_site}
use Rattle.gd_base.specs.Stamps.{Stamp, is_before, is_same}
use Rattle.gd_base.specs.declared.offer.Offer.{Offer}
use Rattle.gd_base.specs.declared.offer.Offer.TheVariants.{Backdated, Gap, Next, Repeat}
use Rattle.gd_base.specs.declared.refusal.FrameFault.{FrameFault}
use Rattle.gd_base.specs.declared.refusal.FrameFault.TheVariants.{NoSuchSite, Session}
use Rattle.gd_base.proofs.SiteLemmas.{is_site-bounds, is_site-within}
use Rattle.gd_base.proofs.Lists.{Every-append, Every-weaker}
use Rattle.gd_base.proofs.StampLemmas.{is_same-true}
use Rattle.gd_base.proofs.StampOrder.{is_before-clocks}
use Rattle.gd_events.specs.Events.{Event}
use Rattle.gd_events.specs.Ordered.{are_distinct, is_new, ordered}
use Rattle.gd_grammar.specs.FrameBytes.{AreInTurn, Frame, IsFrame, last_of}
use Rattle.gd_grammar.specs.Reading.{AllFollow}
use Rattle.gd_grammar.specs.declared.frame.Head.{Head}
use Rattle.gd_grammar.specs.declared.frame.Last.{Last}
use Rattle.gd_model.specs.Arrivals.{all_drawn, are_independent, drawn, is_covered, outcome_of}
use Rattle.gd_model.specs.Board.{Board, apply_all, listed}
use Rattle.gd_model.specs.Drawing.{picture}
use Rattle.gd_protocol.proofs.Least.{least_of_others-greatest}
use Rattle.gd_protocol.proofs.Lists.{put_same}
use Rattle.gd_protocol.proofs.Members.{every_contained, every_from_contained, made_contains}
use Rattle.gd_protocol.proofs.Rising.{raised}
use Rattle.gd_protocol.proofs.WellSites.{well_distinct}
use Rattle.gd_protocol.specs.Sites.{IsWell}
use Rattle.gd_reference.specs.Offers.{offered}
use Rattle.gd_reference.specs.PerSite.{put}
use Rattle.gd_reference.specs.SlowSite.{SlowSite, clock, kept, line, made_by}
use Rattle.gd_repair.specs.Repair.{outcome}
use Rattle.gd_viewing.proofs.Known.{begun-session, begun-sites, begun-sure, line_below}
use Rattle.gd_viewing.proofs.Lists.{filter-within}
use Rattle.gd_viewing.proofs.Showing.{begun-base, begun-held, shown_with}
use Rattle.gd_viewing.proofs.Sides.{high_with, is_high}
use Rattle.gd_viewing.specs.Handing.{Follows, snapshot_of, sure_of}
use Rattle.gd_viewing.specs.SlowViewer.{SlowViewer, after_viewer_offer, opened, viewed, viewer_all_arrived}
use Rattle.gd_viewing.specs.SlowViewer.{viewer_arrived, viewer_beat, viewer_line, viewer_offer, viewer_refusal}
use Rattle.gd_viewing.specs.SlowViewer.{viewer_taken, viewer_unless_refused, with_viewed}
use Rattle.gd_viewing.specs.Views.{IsPassed, IsViewOf, taken_by, taken_events, taken_frames, taken_of, taken_unless}
use Rattle.gd_viewing.specs.Views.{viewer_all_taken}

-- ---- lists

-- an event behind others that have other stamps
distinct-push : (es : List Event) (e : Event) → Every (λ f. not (is_same f.stamp e.stamp) ≡ true) es
    → are_distinct es ≡ true → are_distinct (es ++ e ∷ []) ≡ true
distinct-push [] e apart h = refl
distinct-push (f ∷ fs) e apart h =
    let parts = and_parts (is_new fs f) (are_distinct fs) h in
    let rest = distinct-push fs e apart.1 parts.1 in
    rw (list_all-append (λ (g : Event). not (is_same f.stamp g.stamp)) fs (e ∷ []), parts.0, apart.0, rest) refl

apart_by : (s t : Stamp) → (s.site ≡ t.site → s.clock < t.clock) → not (is_same s t) ≡ true
apart_by s t lower =
    not_from_false (is_same s t)
    (false_from_ne_true (is_same s t)
    (λ same.
    let one = is_same-true s t same in
    let clock = ap (λ (u : Stamp). u.clock) one in
    let below = lower (ap (λ (u : Stamp). u.site) one) in
    omega (arith, clock, below)))

-- ---- an offer

next_above : (count sure number clock : ℕ) → offered count sure number clock ≡ Next → sure < clock
unfolding offered
next_above count sure number clock h = go (nat_le number count) (nat_lt (count + 1) number) (nat_le clock sure) refl h
  where
    go : (a b c : Bool) → nat_le clock sure ≡ c → cond a Repeat (cond b Gap (cond c (Backdated clock sure) Next)) ≡ Next
        → sure < clock
    go false false false low n = leb-false clock sure low
    go a b c low n = cc

-- ---- what a site holds is known to its sure clocks

pub held_below : (slow : SlowSite) → IsWell slow → (e : Event) → Contains slow.held e
    → e.stamp.clock ≤ sure_of slow e.stamp.site
held_below slow well e m =
    cond_both (e.stamp.site == slow.me) (clock slow) (slow.sure e.stamp.site) (λ n. e.stamp.clock ≤ n)
    (λ mine. every_contained (λ (f : Event). f.stamp.clock ≤ clock slow) slow.held e (every_below slow.held) m)
    (λ other.
    every_contained (λ (f : Event). f.stamp.clock ≤ slow.sure e.stamp.site) (made_by e.stamp.site slow.held) e
    (well.passed e.stamp.site (eqb-false e.stamp.site slow.me other)) (made_contains slow.held e m))

-- ---- views

pub view_first : (slow : SlowSite) → IsWell slow → IsViewOf slow (opened (snapshot_of slow)) []
view_first slow well =
    let v = opened (snapshot_of slow) in
    let sure = begun-sure slow in
    let passed : Every (IsPassed slow.sites v.sure) slow.held
    = every_from_contained (IsPassed slow.sites v.sure) slow.held (λ e m.
    let inside = every_contained (λ (f : Event). is_site slow.sites f.stamp.site ≡ true) slow.held e well.by_members m
    in
    record { by = inside; below = omega (arith, sure e.stamp.site inside, held_below slow well e m) }) in
    record {
      session = begun-session slow;
      sites = begun-sites slow;
      base = begun-base slow;
      held = begun-held slow ∙ sym (append-nil (kept slow));
      above = tt;
      low = λ t inside. omega (arith, sure t inside, line_below slow t inside);
      passed = subst (Every (IsPassed slow.sites v.sure)) (sym (append-nil slow.held)) passed;
      distinct = ap are_distinct (append-nil slow.held) ∙ well_distinct slow well;
    }

-- sure clocks may rise
view_raised : (slow : SlowSite) (v : SlowViewer) (fresh : List Event) (sure : ℕ → ℕ) → ((t : ℕ) → v.sure t ≤ sure t)
    → IsViewOf slow v fresh → IsViewOf slow (record v { sure = sure }) fresh
view_raised slow v fresh sure raises h =
    record {
      session = h.session;
      sites = h.sites;
      base = h.base;
      held = h.held;
      above = h.above;
      low = λ t inside. omega (arith, h.low t inside, raises t);
      passed = Every-weaker (IsPassed slow.sites v.sure) (IsPassed slow.sites sure)
          (λ (f : Event) k. record { by = k.by; below = omega (arith, k.below, raises f.stamp.site) })
          (slow.held ++ fresh) h.passed;
      distinct = h.distinct;
    }

pub view_beat : (slow : SlowSite) (v : SlowViewer) (fresh : List Event) (f : Frame) → IsViewOf slow v fresh
    → IsViewOf slow (viewer_beat v f) fresh
view_beat slow v fresh f h =
    let from = f.head.from in
    let clock = max (v.sure from) f.head.clock in
    cond_both (v.count from == f.head.count) (record v { sure = put v.sure from clock }) v
    (λ (w : SlowViewer). IsViewOf slow w fresh)
    (λ same. view_raised slow v fresh (put v.sure from clock) (raised v.sure from clock (omega arith)) h) (λ other. h)

module _ (slow : SlowSite) (v : SlowViewer) (fresh : List Event) (h : IsViewOf slow v fresh) (e : Event)
    (site : is_site slow.sites e.stamp.site ≡ true) (next : viewer_offer v e ≡ Next) where
  rises : v.sure e.stamp.site < e.stamp.clock
  rises = next_above (v.count e.stamp.site) (v.sure e.stamp.site) e.number e.stamp.clock next

  pub view_above : line slow < e.stamp.clock
  view_above = omega (arith, rises, h.low e.stamp.site site)

  abbrev sures : ℕ → ℕ
  sures = put v.sure e.stamp.site e.stamp.clock

  raises : (t : ℕ) → v.sure t ≤ sures t
  raises = raised v.sure e.stamp.site e.stamp.clock (omega (arith, rises))

  behind : slow.held ++ (fresh ++ e ∷ []) ≡ (slow.held ++ fresh) ++ e ∷ []
  behind = sym (append_assoc slow.held fresh (e ∷ []))

  passed_still : Every (IsPassed slow.sites sures) ((slow.held ++ fresh) ++ e ∷ [])
  passed_still =
      let own = put_same v.sure e.stamp.site e.stamp.clock e.stamp.site refl in
      Every-append (IsPassed slow.sites sures) (slow.held ++ fresh) (e ∷ [])
      (view_raised slow v fresh sures raises h).passed (record { by = site; below = omega (arith, own) }, tt)

  distinct_still : are_distinct ((slow.held ++ fresh) ++ e ∷ []) ≡ true
  distinct_still =
      distinct-push (slow.held ++ fresh) e
      (Every-weaker (IsPassed slow.sites v.sure) _
      (λ (f : Event) k. apart_by f.stamp e.stamp (λ same. omega (arith, k.below, rises, ap v.sure same)))
      (slow.held ++ fresh) h.passed) h.distinct

  view_with : IsViewOf slow (with_viewed v e) (fresh ++ e ∷ [])
  view_with =
      record {
        session = h.session;
        sites = h.sites;
        base = h.base;
        held = ap (λ (l : List Event). l ++ e ∷ []) h.held ∙ append_assoc (kept slow) fresh (e ∷ []);
        above = Every-append _ fresh (e ∷ []) h.above (view_above, tt);
        low = λ t t_in. omega (arith, h.low t t_in, raises t);
        passed = subst (Every (IsPassed slow.sites sures)) (sym behind) passed_still;
        distinct = ap are_distinct behind ∙ distinct_still;
      }

pub view_arrived : (slow : SlowSite) (v : SlowViewer) (fresh : List Event) (e : Event)
    → is_site slow.sites e.stamp.site ≡ true → IsViewOf slow v fresh
    → IsViewOf slow (viewer_arrived v e) (fresh ++ taken_by (viewer_offer v e) e)
view_arrived slow v fresh e site h = go (viewer_offer v e) refl
  where
    same : IsViewOf slow v (fresh ++ [])
    same = subst (IsViewOf slow v) (sym (append-nil fresh)) h

    go : (o : Offer) → viewer_offer v e ≡ o → IsViewOf slow (after_viewer_offer o v e) (fresh ++ taken_by o e)
    go Next is = view_with slow v fresh h e site is
    go Repeat is = same
    go Gap is = same
    go (Backdated clock sure) is = same

pub view_all_arrived : (slow : SlowSite) (v : SlowViewer) (fresh es : List Event)
    → Every (λ e. is_site slow.sites e.stamp.site ≡ true) es → IsViewOf slow v fresh
    → IsViewOf slow (viewer_all_arrived v es) (fresh ++ taken_events v es)
unfolding viewer_all_arrived taken_events
view_all_arrived slow v fresh [] sites h = subst (IsViewOf slow v) (sym (append-nil fresh)) h
view_all_arrived slow v fresh (e ∷ es) sites h =
    let first = taken_by (viewer_offer v e) e in
    subst (IsViewOf slow (viewer_all_arrived (viewer_arrived v e) es))
    (append_assoc fresh first (taken_events (viewer_arrived v e) es))
    (view_all_arrived slow (viewer_arrived v e) (fresh ++ first) es sites.1 (view_arrived slow v fresh e sites.0 h))

-- ---- frames

turns_by : (head : Head) (last : Option Last) (es : List Event) → AreInTurn head last es
    → Every (λ e. e.stamp.site ≡ head.from) es
unfolding AllFollow
turns_by head last [] h = tt
turns_by head last (e ∷ es) h
    = (
      eqb-true e.stamp.site head.from (and_parts (e.stamp.site == head.from) _ h.0.next).0,
      turns_by head
          (Some (last_of e)) es h.1,
    )

accepted_from : (v : SlowViewer) (head : Head) → viewer_refusal v head ≡ None → is_site v.sites head.from ≡ true
accepted_from v head h = go (head.session == v.session) (is_site v.sites head.from) refl h
  where
    go : (a b : Bool) → is_site v.sites head.from ≡ b → cond a (cond b None (Some NoSuchSite)) (Some Session) ≡ None
        → is_site v.sites head.from ≡ true
    go true true is n = is
    go a b is n = cc

pub view_taken : (slow : SlowSite) (v : SlowViewer) (fresh : List Event) (f : Frame) → IsFrame f → IsViewOf slow v fresh
    → IsViewOf slow (viewer_taken v f) (fresh ++ taken_of v f)
unfolding viewer_taken
view_taken slow v fresh f frame h = go (viewer_refusal v f.head) refl
  where
    go : (r : Option FrameFault) → viewer_refusal v f.head ≡ r
        → IsViewOf slow (viewer_unless_refused r v f) (fresh ++ taken_unless r v f)
    go (Some fault) is = subst (IsViewOf slow v) (sym (append-nil fresh)) h
    go None is =
        let inside = subst (λ (n : ℕ). is_site n f.head.from ≡ true) h.sites (accepted_from v f.head is) in
        let sites = Every-weaker _ _
        (λ (e : Event) (by : e.stamp.site ≡ f.head.from). subst (λ (t : ℕ). is_site slow.sites t ≡ true) (sym by)
        inside) f.events (turns_by f.head None f.events frame.turns) in
        view_beat slow (viewer_all_arrived v f.events) (fresh ++ taken_events v f.events) f
        (view_all_arrived slow v fresh f.events sites h)

view_all_taken : (slow : SlowSite) (v : SlowViewer) (fresh : List Event) (fs : List Frame) → Every IsFrame fs
    → IsViewOf slow v fresh → IsViewOf slow (viewer_all_taken v fs) (fresh ++ taken_frames v fs)
unfolding viewer_all_taken taken_frames
view_all_taken slow v fresh [] frames h = subst (IsViewOf slow v) (sym (append-nil fresh)) h
view_all_taken slow v fresh (f ∷ fs) frames h =
    subst (IsViewOf slow (viewer_all_taken (viewer_taken v f) fs))
    (append_assoc fresh (taken_of v f) (taken_frames (viewer_taken v f) fs))
    (view_all_taken slow (viewer_taken v f) (fresh ++ taken_of v f) fs frames.1 (view_taken slow v fresh f frames.0 h))

-- ---- what views show

pub view_shown : (slow : SlowSite) (v : SlowViewer) (fresh : List Event) → IsViewOf slow v fresh
    → viewed v ≡ picture (slow.held ++ fresh)
view_shown slow v fresh h =
    ap (λ (l : List Event). listed (apply_all (ordered l) v.base)) h.held
    ∙ ap (λ (b : Board). listed (apply_all (ordered (kept slow ++ fresh)) b)) h.base
    ∙ shown_with slow fresh h.above

pub view_outcome : (slow : SlowSite) (v : SlowViewer) (fresh : List Event) (e : Event) → IsViewOf slow v fresh
    → line slow < e.stamp.clock → outcome_of v.held e ≡ outcome_of (slow.held ++ fresh) e
view_outcome slow v fresh e h above =
    ap (λ (l : List Event). outcome are_independent is_covered (drawn e)
    (all_drawn (filter (λ f. is_before e.stamp f.stamp) (ordered l)))) h.held
    ∙ ap (λ (l : List Event). outcome are_independent is_covered (drawn e)
    (all_drawn (filter (λ f. is_before e.stamp f.stamp) l))) (sym (high_with (line slow) slow.held fresh h.above))
    ∙ ap (λ (l : List Event). outcome are_independent is_covered (drawn e) (all_drawn l))
    (filter-within (λ f. is_before e.stamp f.stamp) (is_high (line slow))
    (λ f later. le-leb (suc (line slow)) f.stamp.clock
    (omega (arith, above, is_before-clocks e.stamp f.stamp later))) (ordered (slow.held ++ fresh)))

pub view_line : (slow : SlowSite) (v : SlowViewer) (fresh : List Event) → IsWell slow → IsViewOf slow v fresh
    → line slow ≤ viewer_line v
view_line slow v fresh well h =
    let member = is_site-bounds slow.sites slow.me well.member in
    least_of_others-greatest v.sure 0 (v.sure 1) (line slow) v.sites
    (h.low 1 (is_site-within slow.sites 1 (omega arith) (omega (arith, member.0, member.1))))
    (λ t low high other. h.low t (is_site-within slow.sites t low (omega (arith, high, h.sites))))

-- ---- the laws of a whole run

pub begun-shown : (slow : SlowSite) → IsWell slow → viewed (opened (snapshot_of slow)) ≡ picture slow.held
begun-shown slow well = view_shown slow (opened (snapshot_of slow)) [] (view_first slow well)
    ∙ ap picture (append-nil slow.held)

-- events that follow are taken, each of them
follow_taken : (v : SlowViewer) (es : List Event) → Follows v es → taken_events v es ≡ es
unfolding taken_events
follow_taken v [] f = refl
follow_taken v (e ∷ es) f =
    ap (λ (o : Offer). taken_by o e ++ taken_events (after_viewer_offer o v e) es) f.1
    ∙ ap (λ (l : List Event). e ∷ l) (follow_taken (with_viewed v e) es f.2)

follow_sites : (v : SlowViewer) (es : List Event) → Follows v es → Every (λ e. is_site v.sites e.stamp.site ≡ true) es
follow_sites v [] f = tt
follow_sites v (e ∷ es) f = (f.0, follow_sites (with_viewed v e) es f.2)

followed : (slow : SlowSite) (es : List Event) → IsWell slow → Follows (opened (snapshot_of slow)) es
    → IsViewOf slow (viewer_all_arrived (opened (snapshot_of slow)) es) es
followed slow es well f =
    let v = opened (snapshot_of slow) in
    let sites = subst (λ (n : ℕ). Every (λ e. is_site n e.stamp.site ≡ true) es) (begun-sites slow)
    (follow_sites v es f) in
    subst (IsViewOf slow (viewer_all_arrived v es)) (follow_taken v es f)
    (view_all_arrived slow v [] es sites (view_first slow well))

pub arrived-shown : (slow : SlowSite) (es : List Event) → IsWell slow → Follows (opened (snapshot_of slow)) es
    → viewed (viewer_all_arrived (opened (snapshot_of slow)) es) ≡ picture (slow.held ++ es)
arrived-shown slow es well f
    = view_shown slow (viewer_all_arrived (opened (snapshot_of slow)) es) es (followed slow es well f)

pub arrived-held : (slow : SlowSite) (es : List Event) → IsWell slow → Follows (opened (snapshot_of slow)) es
    → (viewer_all_arrived (opened (snapshot_of slow)) es).held ≡ kept slow ++ es
arrived-held slow es well f = (followed slow es well f).held

pub arrived-outcome : (slow : SlowSite) (es : List Event) (e : Event) → IsWell slow
    → Follows (opened (snapshot_of slow)) es → line slow < e.stamp.clock
    → outcome_of (kept slow ++ es) e ≡ outcome_of (slow.held ++ es) e
arrived-outcome slow es e well f above =
    let view = followed slow es well f in
    ap (λ (l : List Event). outcome_of l e) (sym view.held)
    ∙ view_outcome slow (viewer_all_arrived (opened (snapshot_of slow)) es) es e view above

pub arrived-above : (slow : SlowSite) (es : List Event) (e : Event) → IsWell slow
    → Follows (opened (snapshot_of slow)) es → is_site slow.sites e.stamp.site ≡ true
    → viewer_offer (viewer_all_arrived (opened (snapshot_of slow)) es) e ≡ Next → line slow < e.stamp.clock
arrived-above slow es e well f site next
    = view_above slow (viewer_all_arrived (opened (snapshot_of slow)) es) es (followed slow es well f) e site next

pub frames-shown : (slow : SlowSite) (fs : List Frame) → IsWell slow → Every IsFrame fs
    → viewed (viewer_all_taken (opened (snapshot_of slow)) fs)
    ≡ picture (slow.held ++ taken_frames (opened (snapshot_of slow)) fs)
frames-shown slow fs well frames =
    let v = opened (snapshot_of slow) in
    view_shown slow (viewer_all_taken v fs) (taken_frames v fs)
    (view_all_taken slow v [] fs frames (view_first slow well))
