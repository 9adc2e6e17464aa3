-- What is typed in a label, byte by byte.
use Rattle.std.proofs.Common.{◌≡◌, ◌≢◌, ◌∙◌, ℕ, suc, ◌+◌, ◌<◌, ◌≤◌, Bool, true, false, List, [], ◌∷◌, ◌++◌, Option}
use Rattle.std.proofs.Common.{Some, None, length, drop, get_or, ◌==◌, append_assoc, append-nil, length-append, ap, sym}
use Rattle.std.proofs.Common.{refl, subst, arith}
use Rattle.std.proofs.lemmas.Bool.{eqb-true}
use Rattle.std.proofs.lemmas.List.{drop_more, drop_all}
use Rattle.std.specs.Prelude.{IfSome}
use Rattle.std.specs.Option.{option_map, option_and_then}
use Rattle.gd_base.specs.Labels.{most_label}
use Rattle.gd_lines.specs.WordKinds.{label, unescaped}
use Rattle.gd_words.specs.Told.{IsNoLabel, IsTyped, escape_of, label_of, typed_with}

-- ---- a byte that stands for one

one_more : (bytes : List ℕ) (b : ℕ) (rest : Option (List ℕ))
    → option_map (λ more. bytes ++ more) (option_map (λ text. b ∷ text) rest)
    ≡ option_map (λ more. (bytes ++ b ∷ []) ++ more) rest
one_more bytes b None = refl
one_more bytes b (Some rest) = ap Some (sym (append_assoc bytes (b ∷ []) rest))

too_many : (bytes : List ℕ) (b : ℕ) (rest : Option (List ℕ)) → most_label ≤ length bytes
    → IfSome (option_map (λ more. bytes ++ more) (option_map (λ text. b ∷ text) rest))
    (λ text. most_label < length text)
too_many bytes b None full = tt
too_many bytes b (Some rest) full = omega (arith, full, length-append bytes (b ∷ rest))

-- ---- not behind a backslash

no_mark_by : (b : ℕ) (t : Bool) → (b == 92) ≡ t → b ≢ 92 → (b == 92) ≡ false
no_mark_by b true e other = absurd (other (eqb-true b 92 e))
no_mark_by b false e other = e

unmarked : (b : ℕ) (rest : List ℕ) → (b == 92) ≡ false
    → unescaped false (b ∷ rest) ≡ option_map (λ text. b ∷ text) (unescaped false rest)
unfolding unescaped
unmarked b rest e = rw e refl

pub typed_mark : (bytes : List ℕ) (b : ℕ) → b ≡ 92 → IsTyped bytes false b true bytes
unfolding unescaped
typed_mark bytes b e = λ rest. rw e refl

pub typed_plain : (bytes more : List ℕ) (b : ℕ) → b ≢ 92 → more ≡ bytes ++ b ∷ [] → IsTyped bytes false b false more
typed_plain bytes more b other same = λ rest.
    let e = no_mark_by b (b == 92) refl other in
    rw (same, unmarked b rest e) (one_more bytes b (unescaped false rest))

pub full_plain : (bytes : List ℕ) (b : ℕ) → b ≢ 92 → most_label ≤ length bytes → IsNoLabel bytes false b
full_plain bytes b other full = λ rest.
    let e = no_mark_by b (b == 92) refl other in
    rw (unmarked b rest e) (too_many bytes b (unescaped false rest) full)

-- ---- behind one

marked_by : (b c : ℕ) (rest : List ℕ) (n m : Bool) → (b == 110) ≡ n → (b == 92) ≡ m → escape_of b ≡ Some c
    → unescaped true (b ∷ rest) ≡ option_map (λ text. c ∷ text) (unescaped false rest)
unfolding unescaped
marked_by b c rest true m e f is = let same : 10 ≡ c = let h = rw e at is in cc in rw (e, ← same) refl
marked_by b c rest false true e f is = let same : 92 ≡ c = let h = rw (e, f) at is in cc in rw (e, f, ← same) refl
marked_by b c rest false false e f is = let h = rw (e, f) at is in cc

marked : (b c : ℕ) (rest : List ℕ) → escape_of b ≡ Some c
    → unescaped true (b ∷ rest) ≡ option_map (λ text. c ∷ text) (unescaped false rest)
marked b c rest is = marked_by b c rest (b == 110) (b == 92) refl refl is

strange_by : (b : ℕ) (rest : List ℕ) (n m : Bool) → (b == 110) ≡ n → (b == 92) ≡ m → escape_of b ≡ None
    → unescaped true (b ∷ rest) ≡ None
unfolding unescaped
strange_by b rest true m e f is = let h = rw e at is in cc
strange_by b rest false true e f is = let h = rw (e, f) at is in cc
strange_by b rest false false e f is = rw (e, f) refl

pub typed_marked : (bytes more : List ℕ) (b c : ℕ) → Some c ≡ escape_of b → more ≡ bytes ++ c ∷ []
    → IsTyped bytes true b false more
typed_marked bytes more b c is same
    = λ rest. rw (same, marked b c rest (sym is)) (one_more bytes c (unescaped false rest))

pub full_marked : (bytes : List ℕ) (b c : ℕ) → Some c ≡ escape_of b → most_label ≤ length bytes → IsNoLabel bytes true b
full_marked bytes b c is full = λ rest. rw (marked b c rest (sym is)) (too_many bytes c (unescaped false rest) full)

pub no_mark : (bytes : List ℕ) (b : ℕ) → None ≡ escape_of b → IsNoLabel bytes true b
no_mark bytes b is = λ rest. rw (strange_by b rest (b == 110) (b == 92) refl refl (sym is)) tt

-- ---- the loop over the bytes

pub typed_more : (text bytes more : List ℕ) (behind next : Bool) (i : ℕ) → i < length text
    → IsTyped bytes behind (get_or text i 0) next more
    → typed_with bytes behind (drop i text) ≡ typed_with more next (drop (i + 1) text)
typed_more text bytes more behind next i within typed =
    ap (typed_with bytes behind) (drop_more text i 0 within) ∙ typed (drop (i + 1) text)

pub none_more : (text bytes : List ℕ) (behind : Bool) (i : ℕ) → i < length text
    → IsNoLabel bytes behind (get_or text i 0)
    → IfSome (typed_with bytes behind (drop i text)) (λ t. most_label < length t)
none_more text bytes behind i within none = rw (drop_more text i 0 within) (none (drop (i + 1) text))

behind_nothing : (o : Option (List ℕ)) → o ≡ option_map (λ more. [] ++ more) o
behind_nothing None = refl
behind_nothing (Some t) = refl

pub typed_start : (text bytes : List ℕ) → bytes ≡ [] → unescaped false text ≡ typed_with bytes false text
typed_start text bytes none = rw none (behind_nothing (unescaped false text))

pub typed_end : (text bytes : List ℕ) (i : ℕ) → length text ≤ i → typed_with bytes false (drop i text) ≡ Some bytes
unfolding unescaped
typed_end text bytes i done = rw (drop_all i text done) (ap Some (append-nil bytes))

pub marked_end : (text bytes : List ℕ) (i : ℕ) → length text ≤ i → typed_with bytes true (drop i text) ≡ None
unfolding unescaped
marked_end text bytes i done = rw (drop_all i text done) refl

pub ended_marked : (text bytes : List ℕ) (behind : Bool) (i : ℕ) → behind ≡ true → length text ≤ i
    → unescaped false text ≡ typed_with bytes behind (drop i text)
    → IfSome (unescaped false text) (λ t. most_label < length t)
ended_marked text bytes behind i at done told =
    let none : unescaped false text ≡ None = told ∙ ap (λ m. typed_with bytes m (drop i text)) at
    ∙ marked_end text bytes i done in
    rw none tt

pub ended_plain : (text bytes : List ℕ) (behind : Bool) (i : ℕ) → behind ≡ false → length text ≤ i
    → unescaped false text ≡ typed_with bytes behind (drop i text)
    → unescaped false text ≡ Some bytes
ended_plain text bytes behind i at done told = told ∙ ap (λ m. typed_with bytes m (drop i text)) at
    ∙ typed_end text bytes i done

-- ---- the label of what was typed

label_too_long : (o : Option (List ℕ)) → IfSome o (λ t. most_label < length t) → option_and_then label_of o ≡ None
label_too_long None long = refl
label_too_long (Some t) long = grind arith

pub no_label : (text : List ℕ) → IfSome (unescaped false text) (λ t. most_label < length t) → label text ≡ None
unfolding label
no_label text long = label_too_long (unescaped false text) long

pub the_label : (text bytes : List ℕ) → unescaped false text ≡ Some bytes → label text ≡ label_of bytes
unfolding label
the_label text bytes is = rw is refl
