-- What follows where a viewer stands for a reference viewer.
use Rattle.std.proofs.Common.{◌≡◌, ℕ, ◌<◌, ◌≤◌, List, [], ◌∷◌, ◌++◌, ap, ap₂, ◌∙◌, arith, IsTrue}
use Rattle.std.specs.FinMap as map_of
use Rattle.std.specs.List.{AllByRecursion as Every}
use Rattle.gd_base.specs.Sites.{is_site}
use Rattle.gd_base.proofs.SiteLemmas.{is_site-bounds, is_site-within}
use Rattle.gd_canvas.specs.Slots.{Slots}
use Rattle.gd_slots.specs.Slots.{board_of}
use Rattle.gd_drawing.specs.Rules.{drawing_rules}
use Rattle.gd_drawing.proofs.DrawingLaws.{drawing_laws}
use Rattle.gd_drawing.proofs.Sizes.{len-apply_all, length-ordered}
use Rattle.gd_events.specs.Ops.{Op}
use Rattle.gd_events.specs.Events.{Event}
use Rattle.gd_events.specs.Ordered.{ordered}
use Rattle.gd_history.specs.Entries.{all_held, events_of, AllOf}
use Rattle.gd_history.specs.Histories.{HistoryValue}
use Rattle.gd_history.specs.Holding.{Holds, Entered, Trimmed}
use Rattle.gd_history.specs.Orders.{later_than}
use Rattle.gd_history.proofs.Holding.{seen-every, seen-later, seen-document, seen-entered, Holds-trimmed}
use Rattle.gd_model.specs.Undoing.{Before}
use Rattle.gd_model.specs.Arrivals.{drawn, all_drawn, outcome_of, are_independent, is_covered}
use Rattle.gd_model.specs.Board.{Board, apply_all, listed}
use Rattle.gd_protocol.proofs.Drawn.{every-ordered}
use Rattle.gd_protocol.proofs.Least.{least_of_others-at, least_of_others-greatest}
use Rattle.gd_reference.specs.PerSite.{least_of_others}
use Rattle.gd_repair.specs.Repair.{Stamped, outcome}
use Rattle.gd_site.proofs.Numbers.{least_of_others-same}
use Rattle.gd_stable.specs.Heard.{HeardValue, of_site}
use Rattle.gd_viewing.specs.SlowViewer.{SlowViewer, viewed, viewer_line}
use Rattle.gd_viewer.specs.Viewers.{ViewerValue, StandsFor, HasSlowViewer, heard_line}
use Rattle.gd_viewer.proofs.Counted.{counted_to-few}

-- ---- histories

abbrev pub History : Type 0
History = HistoryValue Slots Op Before

-- the history keeps the fold of these events from that board
abbrev pub Keeps : Board → List Event → ℕ → History → Type 0
Keeps base held line h = Holds drawing_rules board_of base (all_drawn (ordered held)) line h

abbrev pub Enters : History → Event → History → Type 0
Enters old e new = Entered drawing_rules board_of old (drawn e) new

module _ (base : Board) (held : List Event) (line : ℕ) (h : History) (keeps : Keeps base held line h) where
  -- what holds of all these events holds of the entries
  pub keeps_every : (P : Stamped Op → Type 0) → Every (λ e. P (drawn e)) held → AllOf P (events_of h.entries)
  keeps_every P every = seen-every drawn drawing_rules board_of base held line h keeps P
      (every-ordered (λ e. P (drawn e)) held every)

  -- what comes of an event above the line goes by the entries
  pub keeps_outcome : (e : Event) → line < e.stamp.clock
      → outcome are_independent is_covered (drawn e) (later_than e.stamp (events_of h.entries)) ≡ outcome_of held e
  keeps_outcome e above
      = ap (outcome are_independent is_covered (drawn e))
      (seen-later drawn drawing_rules board_of base held line h keeps e.stamp above)

  pub keeps_board : board_of h.document ≡ apply_all (ordered held) base
  keeps_board = seen-document drawn drawing_rules board_of base held line h keeps

  pub keeps_entered : (e : Event) → line < e.stamp.clock → (new : History) → Enters h e new
      → Keeps base (held ++ e ∷ []) line new
  keeps_entered e above new enters
      = seen-entered drawn drawing_rules board_of base held line h keeps drawing_laws e above new enters

  pub keeps_trimmed : (higher : ℕ) → line ≤ higher → (new : History) → Trimmed h higher new → Keeps base held higher new
  keeps_trimmed higher le new trims
      = Holds-trimmed drawing_rules board_of base (all_drawn (ordered held)) line higher h new keeps le trims

-- what a failed arrival leaves
pub record Same (old new : History) : Type 0 where
  pub entries : new.entries ≡ old.entries
  pub document : board_of new.document ≡ board_of old.document
  pub line : new.line ≡ old.line

-- ---- the line

pub line_agrees : (v : SlowViewer) (h : HeardValue) → 1 ≤ v.sites → h.sites ≡ v.sites
    → ((t : ℕ) → IsTrue (is_site v.sites t) → of_site h.sures t ≡ v.sure t) → heard_line h ≡ viewer_line v
line_agrees v h some sites sures =
    ap₂ (λ (top n : ℕ). least_of_others (of_site h.sures) 0 top n)
    (sures 1 (is_site-within v.sites 1 (omega arith) some)) sites
    ∙ least_of_others-same (of_site h.sures) v.sure 0 (v.sure 1) v.sites
    (λ t low high ne. sures t (is_site-within v.sites t low high))

-- no sure clock is below it
pub line_below : (v : SlowViewer) (t : ℕ) → IsTrue (is_site v.sites t) → viewer_line v ≤ v.sure t
line_below v t inside =
    let bounds = is_site-bounds v.sites t inside in
    least_of_others-at v.sure 0 (v.sure 1) v.sites t bounds.0 bounds.1 (omega (arith, bounds.0))

-- where no sure clock falls, it doesn't
pub line_rises : (sites : ℕ) (f g : ℕ → ℕ) → 1 ≤ sites → ((t : ℕ) → f t ≤ g t)
    → least_of_others f 0 (f 1) sites ≤ least_of_others g 0 (g 1) sites
line_rises sites f g some rise =
    let at : (t : ℕ) → 0 < t → t ≤ sites
    → least_of_others f 0 (f 1) sites ≤ g t
    = λ t low high. omega (arith, least_of_others-at f 0 (f 1) sites t low high (omega (arith, low)), rise t) in
    least_of_others-greatest g 0 (g 1) (least_of_others f 0 (f 1) sites) sites (at 1 (omega arith) some)
    (λ t low high ne. at t low high)

-- ---- what it shows

module _ (v : SlowViewer) (s : ViewerValue) (stands : StandsFor v s) where
  pub board_is : board_of s.history.document ≡ apply_all (ordered v.held) v.base
  board_is = keeps_board v.base v.held (viewer_line v) s.history stands.history

  pub drawing_is : listed (board_of s.history.document) ≡ viewed v
  drawing_is = ap listed board_is

  pub drawing_few : map_of.len (board_of s.history.document) ≤ 1048560
  drawing_few =
      omega (
        arith,
        ap map_of.len board_is,
        len-apply_all (ordered v.held) v.base,
        length-ordered v.held,
        stands.well.made,
        stands.well.few,
        counted_to-few v.count v.sites stands.well.numbered,
      )

  pub outcome_is : (e : Event) → viewer_line v < e.stamp.clock
      → outcome are_independent is_covered (drawn e) (later_than e.stamp (events_of s.history.entries))
      ≡ outcome_of v.held e
  outcome_is = keeps_outcome v.base v.held (viewer_line v) s.history stands.history

  pub AllOf-entries : (P : Stamped Op → Type 0) → Every (λ e. P (drawn e)) v.held
      → AllOf P (events_of s.history.entries)
  AllOf-entries = keeps_every v.base v.held (viewer_line v) s.history stands.history

-- it stands as before where its history is the same
pub stands_same : (v : SlowViewer) (s : ViewerValue) → StandsFor v s → (new : History) → Same s.history new
    → StandsFor v (record { session = s.session; history = new; heard = s.heard })
stands_same v s stands new same = record {
  well = stands.well;
  session = stands.session;
  sites = stands.sites;
  counts = stands.counts;
  sures = stands.sures;
  history = record {
    line_is = same.line ∙ stands.history.line_is;
    entries = ap all_held same.entries ∙ stands.history.entries;
    document = same.document ∙ stands.history.document;
  };
}

pub viewer_same : (s : ViewerValue) → HasSlowViewer s → (new : History) → Same s.history new
    → HasSlowViewer (record { session = s.session; history = new; heard = s.heard })
viewer_same s i new same = record { slow = i.slow; stands = stands_same i.slow s i.stands new same; heard = i.heard }
