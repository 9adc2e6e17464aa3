-- One text more behind the others in a buffer.
use Rattle.std.proofs.Common.{◌≡◌, ℕ, ◌+◌, ◌-◌, ◌≤◌, List, [], ◌∷◌, ◌++◌, length, map, drop, refl, ap, ap₂, ◌∙◌, arith}
use Rattle.std.proofs.Common.{length-append, length-drop}
use Rattle.std.proofs.lemmas.List.{drop_at, take_all, take-append-le, drop-append-le, map-append, length_push}
use Rattle.std.proofs.lemmas.List.Sums.{sum_by_push}
use Rattle.std.specs.List.{AllByRecursion as Every}
use Rattle.gd_outside.specs.declared.memory.texts.Span.{Span}
use Rattle.gd_outside.specs.Texts.{IsWithin, Stand, text_at, texts_size}

-- what stands in the buffer stays there behind more bytes
text_stays : (bytes more : List ℕ) (span : Span) → IsWithin bytes span
    → text_at (bytes ++ more) span ≡ text_at bytes span
text_stays bytes more span h =
    rw (drop-append-le span.start bytes more (omega (arith, h.0, h.1)))
    (take-append-le (span.end - span.start) (drop span.start bytes) more
    (omega (arith, h.0, h.1, length-drop span.start bytes)))

texts_stay : (bytes more : List ℕ) (spans : List Span) → Every (IsWithin bytes) spans
    → map (text_at (bytes ++ more)) spans ≡ map (text_at bytes) spans
texts_stay bytes more [] h = refl
texts_stay bytes more (span ∷ spans) h
    = ap₂ (λ (t : List ℕ) (ts : List (List ℕ)). t ∷ ts) (text_stays bytes more span h.0)
    (texts_stay bytes more spans h.1)

within_push : (bytes text : List ℕ) (spans : List Span) (span : Span) → Every (IsWithin bytes) spans
    → IsWithin (bytes ++ text) span → Every (IsWithin (bytes ++ text)) (spans ++ span ∷ [])
within_push bytes text [] span h k = (k, tt)
within_push bytes text (s ∷ spans) span h k
    = ((h.0.0, omega (arith, h.0.1, length-append bytes text)), within_push bytes text spans span h.1 k)

-- the span behind all bytes that were there
text_behind : (bytes text : List ℕ)
    → text_at (bytes ++ text) (record { start = length bytes; end = length (bytes ++ text) }) ≡ text
text_behind bytes text =
    rw (drop_at bytes text (length bytes) refl)
    (take_all (length (bytes ++ text) - length bytes) text (omega (arith, length-append bytes text)))

pub texts_push : (bytes text : List ℕ) (spans : List Span) → Every (IsWithin bytes) spans
    → map (text_at (bytes ++ text)) (spans ++ record { start = length bytes; end = length (bytes ++ text) } ∷ [])
    ≡ map (text_at bytes) spans ++ text ∷ []
texts_push bytes text spans h =
    map-append (text_at (bytes ++ text)) spans _
    ∙ ap₂ (λ (xs ys : List (List ℕ)). xs ++ ys) (texts_stay bytes text spans h)
    (ap (λ t. t ∷ []) (text_behind bytes text))

pub stand_push : (bytes text : List ℕ) (spans : List Span) (room : ℕ) → Stand bytes spans room
    → texts_size (map (text_at bytes) spans) + (length text + 1) ≤ room
    → Stand (bytes ++ text) (spans ++ record { start = length bytes; end = length (bytes ++ text) } ∷ []) room
stand_push bytes text spans room h k =
    let all = spans ++ record { start = length bytes; end = length (bytes ++ text) } ∷ [] in
    record {
      within = within_push bytes text spans _ h.within (omega (arith, length-append bytes text), omega arith);
      size = ap texts_size (texts_push bytes text spans h.within)
          ∙ sum_by_push (λ t. length t + 1) (map (text_at bytes) spans) text
          ∙ omega (
            arith,
            h.size,
            length-append bytes text,
            length_push spans
                (record { start = length bytes; end = length (bytes ++ text) }),
          );
      fits = omega (
        arith,
        k,
        h.size,
        length-append bytes text,
        length_push spans
            (record { start = length bytes; end = length (bytes ++ text) }),
      );
    }
