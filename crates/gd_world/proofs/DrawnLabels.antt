-- The labels that are drawn: they are labels.
use Rattle.std.proofs.Common.{◌≡◌, ◌+◌, ◌<◌, ◌++◌, ℕ, false, List, [], ◌∷◌, refl, arith}
use Rattle.std.proofs.lemmas.Bool.Decides.{nat_tests}
use Rattle.std.proofs.lemmas.List.Elements.{All-from_recursion}
use Rattle.std.proofs.lemmas.Str.{IsUtf8-from_ascii, chars-IsAscii, is_utf8-from_IsUtf8}
use Rattle.std.proofs.lemmas.Str.Ascii.{IsAscii-from_all}
use Rattle.std.specs.Prelude.{codes}
use Rattle.std.specs.Str.{IsAscii}
use Rattle.gd_base.specs.Labels.{IsLabel, is_strange}

is_letter : (letter : ℕ) → letter < 26 → is_strange (97 + letter) ≡ false
is_letter letter h = grind (arith, nat_tests)

is_ascii : (letter : ℕ) → letter < 26 → IsAscii (codes "churn\n" ++ (97 + letter) ∷ [])
is_ascii letter h =
    let text : List ℕ = codes "churn\n" ++ (97 + letter) ∷ [] in
    IsAscii-from_all text (All-from_recursion (λ b. b < 128) text
    (omega arith, (omega arith, (omega arith, (omega arith, (omega arith, (omega arith, (omega (arith, h), tt))))))))

pub is_drawn_label : (letter : ℕ) → letter < 26 → IsLabel (codes "churn\n" ++ (97 + letter) ∷ [])
is_drawn_label letter h =
    let text : List ℕ = codes "churn\n" ++ (97 + letter) ∷ [] in
    let ascii : IsAscii text = is_ascii letter h in
    record {
      fits = omega arith;
      plain =
          rw (is_utf8-from_IsUtf8 text (IsUtf8-from_ascii text ascii), chars-IsAscii text ascii, is_letter letter h)
          refl;
    }
