-- The history of a site with its entries undone is the drawing of what the site holds up to its line.
use Rattle.std.proofs.Common.{◌≡◌, ℕ, ◌≤◌, Bool, true, false, cond, List, [], ◌∷◌, ◌++◌, filter, refl, ap, ◌∙◌, nat_le}
use Rattle.std.proofs.Common.{arith}
use Rattle.std.specs.FinMap as map_of
use Rattle.gd_base.specs.Stamps.{Stamp, is_before, is_same}
use Rattle.gd_base.proofs.StampLemmas.{is_same-true}
use Rattle.gd_base.proofs.StampOrder.{is_before-clocks, is_before-other_way}
use Rattle.gd_slots.specs.Slots.{board_of}
use Rattle.gd_drawing.proofs.DrawingLaws.{drawing_laws}
use Rattle.gd_drawing.specs.Rules.{drawing_rules}
use Rattle.gd_events.proofs.OrderLemmas.{InOrder, InOrder-ordered, NoneBefore}
use Rattle.gd_events.specs.Events.{Event}
use Rattle.gd_events.specs.Ordered.{ordered}
use Rattle.gd_history.proofs.Holding.{Holds-base}
use Rattle.gd_history.specs.Entries.{AllOf}
use Rattle.gd_history.specs.Histories as histories
use Rattle.gd_history.specs.Orders.{IsByClock, events_upto}
use Rattle.gd_model.specs.Arrivals.{all_drawn, drawn}
use Rattle.gd_model.specs.Board.{Board, apply_all}
use Rattle.gd_reference.specs.SlowSite.{SlowSite, line}
use Rattle.gd_repair.specs.Repair.{after}
use Rattle.gd_site.proofs.Stands.{History}
use Rattle.gd_site.specs.Sites.{SiteValue, StandsFor}
use Rattle.gd_snapshots.specs.Snapshots.{Placed}
use Rattle.gd_viewing.specs.Handing.{base_of}

-- ---- the clocks of events in order

clocks_by : (s t : Stamp) → is_before t s ≡ false → s.clock ≤ t.clock
clocks_by s t later = go (is_same t s) refl
  where
    go : (b : Bool) → is_same t s ≡ b → s.clock ≤ t.clock
    go true same = let one = is_same-true t s same in omega (arith, ap (λ (u : Stamp). u.clock) one)
    go false apart = is_before-clocks s t (is_before-other_way t s later apart)

none_lower : (e : Event) (es : List Event) → NoneBefore e es → AllOf (λ f. e.stamp.clock ≤ f.stamp.clock) (all_drawn es)
none_lower e [] h = tt
none_lower e (f ∷ fs) h = (clocks_by e.stamp f.stamp h.0, none_lower e fs h.1)

by_clock : (es : List Event) → InOrder es → IsByClock (all_drawn es)
by_clock [] h = tt
by_clock (e ∷ es) h = (none_lower e es h.0, by_clock es h.1)

-- ---- the base

-- the fold of the events up to a clock
after_upto : (n : ℕ) (es : List Event) (b : Board)
    → after drawing_rules (events_upto n (all_drawn es)) b ≡ apply_all (filter (λ e. nat_le e.stamp.clock n) es) b
after_upto n [] b = refl
after_upto n (e ∷ es) b = go (nat_le e.stamp.clock n) (λ c. after_upto n es c)
  where
    go : (t : Bool) → ((c : Board)
        → after drawing_rules (events_upto n (all_drawn es)) c ≡ apply_all (filter (λ f. nat_le f.stamp.clock n) es) c)
        → after drawing_rules
        (cond t (all_drawn (e ∷ []) ++ events_upto n (all_drawn es)) (events_upto n (all_drawn es))) b
        ≡ apply_all (cond t (e ∷ filter (λ f. nat_le f.stamp.clock n) es) (filter (λ f. nat_le f.stamp.clock n) es))
        b
    go true rest = rest (drawing_rules.apply (drawn e) b)
    go false rest = rest b

pub base_is : (slow : SlowSite) (s : SiteValue) → StandsFor slow s
    → histories.base_of drawing_rules board_of s.history ≡ base_of slow
base_is slow s stands =
    Holds-base drawing_rules board_of map_of.empty (all_drawn (ordered slow.held))
    (by_clock (ordered slow.held) (InOrder-ordered slow.held)) (line slow) s.history stands.history drawing_laws
    ∙ after_upto (line slow) (ordered slow.held) map_of.empty

-- so are its objects, once they are undone in a copy of the drawing
pub objects_are : (slow : SlowSite) (s : SiteValue) → StandsFor slow s → (h : History) → h ≡ s.history → (base : Board)
    → base ≡ histories.base_of drawing_rules board_of h
    → (objects : List Placed) → objects ≡ map_of.entries base → objects ≡ map_of.entries (base_of slow)
objects_are slow s stands h same base undone objects lists =
    lists ∙ ap map_of.entries
    (undone ∙ ap (λ (x : History). histories.base_of drawing_rules board_of x) same ∙ base_is slow s stands)
