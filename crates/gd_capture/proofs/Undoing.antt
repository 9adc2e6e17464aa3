-- Entries that are undone from the last one to the first.
use Rattle.std.proofs.Common.{◌≡◌, ℕ, ◌+◌, ◌<◌, List, ◌∷◌, length, drop, get_or, sym, ap, ◌∙◌}
use Rattle.std.proofs.Math.Seq.{drop-length}
use Rattle.std.proofs.lemmas.List.{at_drop_more}
use Rattle.gd_drawing.specs.Rules.{drawing_rules}
use Rattle.gd_events.specs.Ops.{Op}
use Rattle.gd_history.specs.Entries.{EntryValue, all_held, event_of}
use Rattle.gd_model.specs.Board.{Board}
use Rattle.gd_model.specs.Undoing.{Before}
use Rattle.gd_repair.specs.Repair.{unwound}

-- the board with all entries but so many of the first undone
abbrev pub undone_to : List (EntryValue Op Before) → ℕ → Board → Board
undone_to xs left b = unwound drawing_rules (all_held (drop left xs)) b

-- none is undone yet
pub undone_none : (xs : List (EntryValue Op Before)) (b : Board) → undone_to xs (length xs) b ≡ b
undone_none xs b = ap (λ (l : List (EntryValue Op Before)). unwound drawing_rules (all_held l) b) (drop-length xs)

-- one entry more
pub undone_more : (xs : List (EntryValue Op Before)) (i : ℕ) (x : EntryValue Op Before) (start now new : Board)
    → i < length xs → x ≡ get_or xs i x → now ≡ undone_to xs (i + 1) start
    → new ≡ drawing_rules.undo (event_of x) x.before now → new ≡ undone_to xs i start
undone_more xs i x start now new inside read was step =
    step ∙ ap (drawing_rules.undo (event_of x) x.before) was
    ∙ sym
    (at_drop_more (λ (l : List (EntryValue Op Before)). unwound drawing_rules (all_held l) start) xs i x inside
    ∙ ap (λ (y : EntryValue Op Before). unwound drawing_rules (all_held (y ∷ drop (i + 1) xs)) start) (sym read))
