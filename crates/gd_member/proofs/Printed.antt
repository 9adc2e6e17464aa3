-- What stands in an output that grows.
use Rattle.std.proofs.Common.{◌≡◌, ◌∙◌, ℕ, List, [], ◌∷◌, ◌++◌, length, map, refl, sym, ap, ap₂, append_assoc}
use Rattle.std.proofs.lemmas.List.Folds.{concat-append}
use Rattle.std.specs.List.{concat}
use Rattle.std.specs.Prelude.{Ok}
use Rattle.gd_effects.proofs.RunEnds.{idle_journal, idle_link, idle_source}
use Rattle.gd_effects.specs.Effects.{Print, printed}
use Rattle.gd_effects.specs.Prints.{Prints}
use Rattle.gd_grammar.specs.Drawings.{spelling}
use Rattle.gd_grammar.specs.FieldBytes.{each_bytes, word_bytes}
use Rattle.gd_member.specs.Growing.{Grown, seen_grown}
use Rattle.gd_snapshots.specs.SnapshotBytes.{front_bytes, placed_bytes, snapshot_bytes, snapshot_pieces}
use Rattle.gd_snapshots.specs.Snapshots.{Snapshot}

printed_lines : (lines : List (List ℕ)) → printed (map Print lines) ≡ concat lines
printed_lines [] = refl
printed_lines (line ∷ lines) = ap (λ l. line ++ l) (printed_lines lines)

-- the lines that were printed stand there
pub printed_whole : (old new : Grown) (lines : List (List ℕ))
    → Prints {T = Unit {0}} (seen_grown old) (map Print lines) (Ok tt) (seen_grown new)
    → new.bytes ≡ old.bytes ++ concat lines
printed_whole old new lines prints =
    let did = (prints idle_source idle_journal idle_link 0).done (record { input = refl; entries = refl }) in
    did.output.now refl ∙ ap (λ l. old.bytes ++ l) (printed_lines lines)

-- ---- the pieces of a snapshot

each_concat : {A : Type 0} (bytes_of : A → List ℕ) (xs : List A) → concat (map bytes_of xs) ≡ each_bytes bytes_of xs
unfolding each_bytes
each_concat bytes_of [] = refl
each_concat bytes_of (x ∷ xs) = ap (λ l. bytes_of x ++ l) (each_concat bytes_of xs)

pub snapshot_whole : (s : Snapshot) → concat (snapshot_pieces s) ≡ snapshot_bytes s
unfolding snapshot_bytes
snapshot_whole s =
    let front = front_bytes s in
    let count = word_bytes (length s.kept) in
    ap (λ l. front ++ l) (
    concat-append (map placed_bytes s.objects) (count ∷ map spelling s.kept)
    ∙ ap₂ (λ (a b : List ℕ). a ++ (count ++ b)) (each_concat placed_bytes s.objects) (each_concat spelling s.kept))
    ∙ sym (append_assoc front (each_bytes placed_bytes s.objects) (count ++ each_bytes spelling s.kept))
    ∙ sym (append_assoc (front ++ each_bytes placed_bytes s.objects) count (each_bytes spelling s.kept))
