-- What a viewer shows: the board up to the line with the events above it applied is the board of all of them.
use Rattle.std.proofs.Common.{◌≡◌, ◌<◌, List, ◌++◌, filter, refl, sym, ap, ◌∙◌}
use Rattle.std.proofs.lemmas.List.Sums.{fold-append}
use Rattle.std.specs.FinMap as map_of
use Rattle.std.specs.List.{AllByRecursion as Every}
use Rattle.gd_base.specs.StampTotal.{stamp_cmp-IsAntisymmetric, stamp_cmp-total}
use Rattle.gd_drawing.proofs.InOrder.{stacking}
use Rattle.gd_events.specs.Events.{Event}
use Rattle.gd_events.specs.Ordered.{ordered}
use Rattle.gd_events.proofs.OrderLemmas.{InOrder-ordered}
use Rattle.gd_model.specs.Board.{Board, apply_all, board, listed}
use Rattle.gd_model.specs.Drawing.{picture}
use Rattle.gd_reference.specs.SlowSite.{SlowSite, kept, line}
use Rattle.gd_viewing.proofs.Sides.{high_with, is_high, is_low, low_with, split}
use Rattle.gd_viewing.specs.Handing.{base_of, snapshot_of}
use Rattle.gd_viewing.specs.SlowViewer.{opened}

-- a board is that of its objects
board_of_entries : (b : Board) → map_of.from_entries (map_of.entries b) ≡ b
board_of_entries b = map_of.same_map stamp_cmp-total stamp_cmp-IsAntisymmetric (map_of.from_entries (map_of.entries b))
    b (λ q. map_of.get-from_entries stamp_cmp-total (map_of.entries b) q ∙ sym (map_of.get-entries b q))

pub begun-base : (slow : SlowSite) → (opened (snapshot_of slow)).base ≡ base_of slow
unfolding opened snapshot_of
begun-base slow = board_of_entries (base_of slow)

pub begun-held : (slow : SlowSite) → (opened (snapshot_of slow)).held ≡ kept slow
unfolding opened snapshot_of
begun-held slow = refl

-- events above the line, put behind those that are held
pub board_with : (slow : SlowSite) (es : List Event) → Every (λ e. line slow < e.stamp.clock) es
    → apply_all (ordered (kept slow ++ es)) (base_of slow) ≡ board (slow.held ++ es)
board_with slow es above =
    let n = line slow in
    let all = ordered (slow.held ++ es) in
    ap (λ (l : List Event). apply_all l (base_of slow)) (sym (high_with n slow.held es above))
    ∙ ap (λ (l : List Event). apply_all (filter (is_high n) all) (apply_all l map_of.empty))
    (sym (low_with n slow.held es above))
    ∙ sym (fold-append _ map_of.empty (filter (is_low n) all) (filter (is_high n) all))
    ∙ ap (λ (l : List Event). apply_all l map_of.empty) (sym (split n all (InOrder-ordered (slow.held ++ es))))

pub shown_with : (slow : SlowSite) (es : List Event) → Every (λ e. line slow < e.stamp.clock) es
    → listed (apply_all (ordered (kept slow ++ es)) (base_of slow)) ≡ picture (slow.held ++ es)
shown_with slow es above = ap listed (board_with slow es above) ∙ stacking (slow.held ++ es)
