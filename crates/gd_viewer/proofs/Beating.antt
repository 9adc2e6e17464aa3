-- A viewer that takes what a frame says of its sender's clock, and refuses the frames that the reference viewer
-- refuses.
use Rattle.std.proofs.Common.{◌≡◌, ℕ, ◌≤◌, max, Bool, true, false, cond, ◌==◌, List, refl, sym, ap, ◌∙◌, subst, arith}
use Rattle.std.proofs.Common.{IsTrue}
use Rattle.gd_base.specs.Sites.{is_site}
use Rattle.gd_base.proofs.Lists.{Every-weaker}
use Rattle.gd_base.proofs.SiteLemmas.{is_site-bounds}
use Rattle.gd_events.specs.Events.{Event}
use Rattle.gd_grammar.specs.FrameBytes.{Frame}
use Rattle.gd_grammar.specs.declared.frame.Head.{Head}
use Rattle.gd_history.specs.Holding.{Trimmed}
use Rattle.gd_protocol.proofs.Lists.{put_cases}
use Rattle.gd_reference.specs.PerSite.{put}
use Rattle.gd_site.proofs.Numbers.{length-put}
use Rattle.gd_stable.specs.Heard.{HeardValue, IsHeard, of_site, put_at, with_beat}
use Rattle.gd_viewing.specs.SlowViewer.{SlowViewer, viewer_beat, viewer_line, viewer_refusal}
use Rattle.gd_viewer.specs.Answers.{refused_by}
use Rattle.gd_viewer.specs.Viewers.{ViewerValue, StandsFor, HasSlowViewer, heard_line}
use Rattle.gd_viewer.proofs.Standing.{History, Keeps, keeps_trimmed, line_agrees, line_rises}
use Rattle.gd_viewer.proofs.Taking.{heard_put}

-- ---- sure clocks that rise

module _ (s : ViewerValue) (sures : List ℕ) (v : SlowViewer) (stands : StandsFor v s) (sure : ℕ → ℕ)
    (are : (t : ℕ) → IsTrue (is_site v.sites t) → of_site sures t ≡ sure t) (rise : (t : ℕ) → v.sure t ≤ sure t) where
  abbrev slower : SlowViewer
  slower = record v { sure = sure }

  abbrev higher : ℕ
  higher = heard_line (record s.heard { sures = sures })

  line_new : higher ≡ viewer_line slower
  line_new = line_agrees slower (record s.heard { sures = sures }) stands.well.some stands.sites are

  line_up : viewer_line v ≤ viewer_line slower
  line_up = line_rises v.sites v.sure sure stands.well.some rise

  risen_line : s.history.line ≤ higher
  risen_line = omega (arith, stands.history.line_is, line_new, line_up)

  module _ (trimmed : History) (trims : Trimmed s.history higher trimmed) where
    after_it : Keeps v.base v.held (viewer_line slower) trimmed
    after_it =
        subst (λ (l : ℕ). Keeps v.base v.held l trimmed) line_new
        (keeps_trimmed v.base v.held (viewer_line v) s.history stands.history higher (omega (arith, line_up, line_new))
        trimmed trims)

    risen_stands : StandsFor slower
        (record { session = s.session; history = trimmed; heard = record s.heard { sures = sures } })
    risen_stands = record {
      well = record {
        some = stands.well.some;
        few = stands.well.few;
        by_members = stands.well.by_members;
        passed = Every-weaker _ _
            (λ (e : Event) (le : e.stamp.clock ≤ v.sure e.stamp.site). omega (arith, le, rise e.stamp.site)) v.held
            stands.well.passed;
        numbered = stands.well.numbered;
        made = stands.well.made;
      };
      session = stands.session;
      sites = stands.sites;
      counts = stands.counts;
      sures = are;
      history = after_it;
    }

-- ---- the beat

pub record Beaten (s : ViewerValue) (f : Frame) (heard : HeardValue) (line : ℕ) : Type 0 where
  pub inside : IsTrue (is_site s.heard.sites f.head.from)
  pub sized : IsHeard s.heard
  pub heard_is : heard ≡ with_beat s.heard f.head.from f.head.count f.head.clock
  pub line_is : line ≡ heard_line heard

module _ (s : ViewerValue) (f : Frame) (heard : HeardValue) (line : ℕ) (b : Beaten s f heard line) where
  abbrev pub beaten_viewer : History → ViewerValue
  beaten_viewer trimmed = record { session = s.session; history = trimmed; heard = heard }

  abbrev raised : List ℕ
  raised = put_at s.heard.sures f.head.from (max (of_site s.heard.sures f.head.from) f.head.clock)

  -- what is heard, where the counts agree and where they don't
  abbrev beaten_by : Bool → HeardValue
  beaten_by t = cond t (record s.heard { sures = raised }) s.heard

  module _ (v : SlowViewer) (stands : StandsFor v s) where
    abbrev greater : ℕ
    greater = max (v.sure f.head.from) f.head.clock

    there : IsTrue (is_site v.sites f.head.from)
    there = subst (λ (n : ℕ). IsTrue (is_site n f.head.from)) stands.sites b.inside

    raised_are : (t : ℕ) → IsTrue (is_site v.sites t) → of_site raised t ≡ put v.sure f.head.from greater t
    raised_are t h =
        let bounds = is_site-bounds s.heard.sites f.head.from b.inside in
        heard_put s.heard b.sized f.head.from bounds.0 bounds.1 (max (of_site s.heard.sures f.head.from) f.head.clock)
        s.heard.sures b.sized.sures (λ u. IsTrue (is_site v.sites u)) (λ u k. (is_site-bounds v.sites u k).0) v.sure
        stands.sures t h
        ∙ ap (λ (n : ℕ). put v.sure f.head.from (max n f.head.clock) t) (stands.sures f.head.from there)

    rise : (t : ℕ) → v.sure t ≤ put v.sure f.head.from greater t
    rise t = put_cases (λ (u n : ℕ). v.sure u ≤ n) v.sure f.head.from greater (omega arith) (λ u k. omega arith) t

    line_by : (t : Bool) → s.history.line ≤ heard_line (beaten_by t)
    line_by true = risen_line s raised v stands (put v.sure f.head.from greater) raised_are rise
    line_by false = risen_line s s.heard.sures v stands v.sure stands.sures (λ t. omega arith)

    beat_line : s.history.line ≤ line
    beat_line = let here = line_by (of_site s.heard.counts f.head.from == f.head.count)
        in omega (arith, here, b.line_is ∙ ap heard_line b.heard_is)

    stands_by : (t : Bool) (trimmed : History) → Trimmed s.history (heard_line (beaten_by t)) trimmed
        → StandsFor (cond t (record v { sure = put v.sure f.head.from greater }) v)
        (record { session = s.session; history = trimmed; heard = beaten_by t })
    stands_by true trimmed trims
        = risen_stands s raised v stands (put v.sure f.head.from greater) raised_are rise trimmed trims
    stands_by false trimmed trims
        = risen_stands s s.heard.sures v stands v.sure stands.sures (λ t. omega arith) trimmed trims

    pub beat_stands : (trimmed : History) → Trimmed s.history line trimmed
        → StandsFor (viewer_beat v f) (beaten_viewer trimmed)
    beat_stands trimmed trims =
        let test : Bool = of_site s.heard.counts f.head.from == f.head.count in
        subst (λ (h : HeardValue). StandsFor (viewer_beat v f)
        (record { session = s.session; history = trimmed; heard = h })) (sym b.heard_is)
        (subst (λ (n : ℕ). StandsFor (cond (n == f.head.count) (record v { sure = put v.sure f.head.from greater }) v)
        (record { session = s.session; history = trimmed; heard = beaten_by test }))
        (stands.counts f.head.from there)
        (stands_by test trimmed
        (subst (λ (l : ℕ). Trimmed s.history l trimmed) (b.line_is ∙ ap heard_line b.heard_is) trims)))

  sized_by : IsHeard s.heard → (t : Bool) → IsHeard (beaten_by t)
  sized_by h true = record {
    sites_to = h.sites_to;
    counts = h.counts;
    sures
        = length-put s.heard.sures f.head.from (max (of_site s.heard.sures f.head.from) f.head.clock) h.sures;
  }
  sized_by h false = h

  pub beaten_line : HasSlowViewer s → s.history.line ≤ line
  beaten_line i = beat_line i.slow i.stands

  pub beaten_is_viewer : (trimmed : History) → Trimmed s.history line trimmed → HasSlowViewer s
      → HasSlowViewer (beaten_viewer trimmed)
  beaten_is_viewer trimmed trims i = record {
    slow = viewer_beat i.slow f;
    stands = beat_stands i.slow i.stands trimmed trims;
    heard = subst IsHeard (sym b.heard_is) (sized_by i.heard (of_site s.heard.counts f.head.from == f.head.count));
  }

-- a beat leaves the sites
sites_by : (h : HeardValue) (sures : List ℕ) (t : Bool) → (cond t (record h { sures = sures }) h).sites ≡ h.sites
sites_by h sures true = refl
sites_by h sures false = refl

-- there is a site then too
pub some_beaten : (s : ViewerValue) (f : Frame) (heard : HeardValue)
    → heard ≡ with_beat s.heard f.head.from f.head.count f.head.clock → HasSlowViewer s → 1 ≤ heard.sites
some_beaten s f heard is i =
    omega (
      arith,
      ap (λ (h : HeardValue). h.sites) is,
      sites_by s.heard
          (put_at s.heard.sures f.head.from (max (of_site s.heard.sures f.head.from) f.head.clock))
          (of_site s.heard.counts f.head.from == f.head.count),
      i.stands.sites,
      i.stands.well.some,
    )

-- ---- frames are refused alike

pub refused_is : (v : SlowViewer) (s : ViewerValue) → StandsFor v s → (head : Head)
    → refused_by s head ≡ viewer_refusal v head
refused_is v s stands head = λ i. viewer_refusal (record v { session = stands.session i; sites = stands.sites i }) head
