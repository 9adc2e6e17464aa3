-- What a node hears is in its ranges.
use Rattle.std.proofs.Common.{◌≡◌, ℕ, zero, suc, Bool, true, false, List, [], ◌∷◌, cond, refl}
use Rattle.std.specs.List.{AllByRecursion}
use Rattle.std.specs.Prelude.{Ok, Err}
use Rattle.gd_lines.specs.Lines.{read}
use Rattle.gd_reference.specs.InputLines.{Read, Over, heard, is_long, lines_of}
use Rattle.gd_reference.specs.NodeRun.{HeardLine, IsHeard, IsRead, ReadLine, most_node_lines, node_lines}
use Rattle.gd_words.proofs.ReadRanges.{line_in}

line_is : (bytes : List ℕ) (line : ReadLine) → read bytes ≡ line → IsRead line
line_is bytes (Ok command) e = line_in bytes command e
line_is bytes (Err fault) e = tt

abbrev AreHeard : List HeardLine → Type 0
AreHeard lines = AllByRecursion IsHeard lines

one_and_more : (bytes : List ℕ) (too_long : Bool) (lines : List HeardLine) → AreHeard lines
    → AreHeard (cond too_long (Over ∷ []) (Read (read bytes) ∷ lines))
one_and_more bytes true lines all = (tt, tt)
one_and_more bytes false lines all = (line_is bytes (read bytes) refl, all)

all_heard : (most : ℕ) (lines : List (List ℕ)) → AreHeard (heard read most lines)
unfolding heard
all_heard zero [] = tt
all_heard (suc most) [] = tt
all_heard zero (bytes ∷ lines) = (tt, tt)
all_heard (suc most) (bytes ∷ lines) = one_and_more bytes (is_long bytes) (heard read most lines) (all_heard most lines)

pub node_lines_are_in_range : (bytes : List ℕ) → AllByRecursion IsHeard (node_lines bytes)
unfolding node_lines
node_lines_are_in_range bytes = all_heard most_node_lines (lines_of bytes)
