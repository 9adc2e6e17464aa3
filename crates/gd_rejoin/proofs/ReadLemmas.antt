-- Contents that are read piece by piece.
use Rattle.std.proofs.Common.{◌≡◌, ℕ, ◌+◌, ◌≤◌, List, ◌++◌, length, take, drop, sym, ap, ◌∙◌, arith, length-append}
use Rattle.std.proofs.lemmas.List.{length-take-le, take_all, take-append-drop}
use Rattle.std.proofs.Math.Seq.{take-append-add}

-- one piece more
pub read-more : (old new buffer contents : List ℕ) (k place : ℕ) → new ≡ old ++ take k buffer
    → old ≡ take (length old) contents → take k buffer ≡ take k (drop place contents)
    → place ≡ length old → k ≤ length buffer → new ≡ take (length new) contents
read-more old new buffer contents k place is so_far piece at fits =
    let long : length new ≡ length old + k = ap length is ∙ length-append old (take k buffer)
    ∙ omega (arith, length-take-le k buffer fits) in
    let more : take k buffer ≡ take k (drop (length old) contents) = piece
    ∙ ap (λ (n : ℕ). take k (drop n contents)) at in
    let split : contents ≡ old ++ drop (length old) contents =
    sym (take-append-drop (length old) contents) ∙ ap (λ (l : List ℕ). l ++ drop (length old) contents) (sym so_far) in
    let front : take (length old + k) contents ≡ old ++ take k (drop (length old) contents) =
    ap (λ (l : List ℕ). take (length old + k) l) split ∙ take-append-add old (drop (length old) contents) k in
    rw long (is ∙ ap (λ (l : List ℕ). old ++ l) more ∙ sym front)

-- as many bytes as the contents have
pub all-read : (bytes contents : List ℕ) → bytes ≡ take (length bytes) contents → length contents ≤ length bytes
    → bytes ≡ contents
all-read bytes contents is le = is ∙ take_all (length bytes) contents le

-- a front, and what stands behind it
pub front-then : (front contents : List ℕ) → front ≡ take (length front) contents
    → front ++ drop (length front) contents ≡ contents
front-then front contents is = ap (λ (l : List ℕ). l ++ drop (length front) contents) is
    ∙ take-append-drop (length front) contents
