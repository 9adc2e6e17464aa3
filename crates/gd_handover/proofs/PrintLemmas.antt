-- The pieces of a snapshot, printed one after another.
use Rattle.std.proofs.Common.{◌≡◌, ℕ, List, [], ◌∷◌, ◌++◌, length, map, refl, sym, ap, ◌∙◌, arith}
use Rattle.std.proofs.lemmas.List.{map-append}
use Rattle.gd_effects.specs.Effects.{Effect, Print}
use Rattle.gd_events.specs.Events.{Event}
use Rattle.gd_grammar.specs.Drawings.{spelling}
use Rattle.gd_grammar.specs.FieldBytes.{word_bytes}
use Rattle.gd_snapshots.specs.SnapshotBytes.{front_bytes, placed_bytes, snapshot_pieces}
use Rattle.gd_snapshots.specs.Snapshots.{Placed, Snapshot}

abbrev pub prints : List (List ℕ) → List Effect
prints pieces = map Print pieces

-- the first piece, and those behind it
pub piece-first : (piece bytes : List ℕ) (pieces : List (List ℕ)) → bytes ≡ piece
    → prints (piece ∷ pieces) ≡ (Print bytes ∷ []) ++ prints pieces
piece-first piece bytes pieces is = ap (λ (b : List ℕ). Print b ∷ prints pieces) (sym is)

-- the piece of the first of the things that are left
pub piece-next : {A : Type 0} (spell : A → List ℕ) (left rest : List A) (x : A) (bytes : List ℕ) → left ≡ x ∷ rest
    → bytes ≡ spell x
    → prints (map spell left) ≡ (Print bytes ∷ []) ++ prints (map spell rest)
piece-next {A} spell left rest x bytes first is =
    ap (λ (xs : List A). prints (map spell xs)) first ∙ piece-first (spell x) bytes (map spell rest) is

pub pieces-end : {A : Type 0} (spell : A → List ℕ) (left : List A) → length left ≡ 0 → prints (map spell left) ≡ []
pieces-end spell [] none = refl
pieces-end spell (x ∷ xs) none = absurd (omega (arith, none))

-- ---- the parts of a snapshot

-- the number of the kept events, and these
abbrev pub kept_pieces : Snapshot → List (List ℕ)
kept_pieces s = word_bytes (length s.kept) ∷ map spelling s.kept

-- behind the front
abbrev pub behind_front : Snapshot → List (List ℕ)
behind_front s = map placed_bytes s.objects ++ kept_pieces s

pub pieces-front : (s : Snapshot) (front bytes : List ℕ) → bytes ≡ front → front ≡ front_bytes s
    → prints (snapshot_pieces s) ≡ (Print bytes ∷ []) ++ prints (behind_front s)
pieces-front s front bytes same is = piece-first (front_bytes s) bytes (behind_front s) (same ∙ is)

pub pieces-objects : (s : Snapshot) (objects : List Placed) → objects ≡ s.objects
    → prints (behind_front s) ≡ prints (map placed_bytes objects) ++ prints (kept_pieces s)
pieces-objects s objects is =
    map-append Print (map placed_bytes s.objects) (kept_pieces s)
    ∙ ap (λ (os : List Placed). prints (map placed_bytes os) ++ prints (kept_pieces s)) (sym is)

pub pieces-kept : (s : Snapshot) (kept : List Event) → kept ≡ s.kept
    → prints (kept_pieces s) ≡ prints (word_bytes (length kept) ∷ map spelling kept)
pieces-kept s kept is = ap (λ (es : List Event). prints (word_bytes (length es) ∷ map spelling es)) (sym is)
