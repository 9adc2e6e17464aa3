-- Touches of an operation one by one, tests of all of them, and what a form covers.
use Rattle.std.proofs.Common.{◌≡◌, ℕ, ◌+◌, ◌-◌, ◌≤◌, ◌==◌, Bool, true, false, ◌&&◌, List, [], ◌∷◌, ◌++◌, map, drop}
use Rattle.std.proofs.Common.{length, suc, zero, Some, None, refl, sym, ap, ◌∙◌, append-nil, length-append}
use Rattle.std.proofs.Common.{arith}
use Rattle.std.specs.Prelude.{option_map, slice_get, unwrap_or}
use Rattle.std.specs.List.{list_all}
use Rattle.std.proofs.lemmas.Bool.{eqb-true}
use Rattle.std.proofs.lemmas.List.{length-map}
use Rattle.gd_base.specs.Stamps.{Stamp, is_same}
use Rattle.gd_base.specs.declared.ties.Tie.{Tie}
use Rattle.gd_events.specs.Ops.{Op}
use Rattle.gd_model.specs.declared.content.TheConstants.{LINK}
use Rattle.gd_model.specs.declared.form.Form.{Form}
use Rattle.gd_model.specs.declared.form.Form.TheVariants.{Sets, Puts, Takes}
use Rattle.gd_model.specs.Contents.{Content}
use Rattle.gd_model.specs.Forms.{form}
use Rattle.gd_model.specs.Objects.{have_parts, parts_of}
use Rattle.gd_model.specs.Relations.{Touch, link_touch, touches, touches_by, covers, covers_by}
use Rattle.gd_canvas.specs.declared.kept.Kept.{Kept}
use Rattle.gd_canvas.specs.declared.kept.Kept.TheVariants.{Set}
use Rattle.gd_canvas.specs.declared.swap.Swap.{Swap}
use Rattle.gd_canvas.specs.Kept.{op_of}
use Rattle.gd_canvas.specs.Swaps.{of_swap, sets}
use Rattle.gd_canvas.specs.Touches.{object_of, own_parts, ties_of, id_at, tied_at, is_set_by}
use Rattle.gd_canvas.proofs.SwapLemmas.{part_sets}

-- ---- one by one

abbrev own_touches : Stamp → List ℕ → List Touch
own_touches i ps = map (λ p. (i, p)) ps

by_form : (f : Form) → touches_by f ≡ own_touches (object_of f) (own_parts f) ++ map link_touch (ties_of f)
by_form (Sets id c) = sym (append-nil (own_touches id (parts_of c)))
by_form (Puts id o ties) = refl
by_form (Takes id ties) = refl

-- an operation touches its own parts and the links that it ties
pub touches-parts : (stamp : Stamp) (op : Op)
    → touches stamp op ≡ own_touches (object_of (form stamp op)) (own_parts (form stamp op))
    ++ map link_touch (ties_of (form stamp op))
touches-parts stamp op = by_form (form stamp op)

pub touch_count : (stamp : Stamp) (op : Op)
    → length (touches stamp op) ≡ length (own_parts (form stamp op)) + length (ties_of (form stamp op))
touch_count stamp op =
    let f = form stamp op in
    omega (
      arith,
      ap length (touches-parts stamp op),
      length-append (own_touches (object_of f) (own_parts f)) (map link_touch (ties_of f)),
      length-map {B = Touch} (own_parts f) (λ (p : ℕ). (object_of f, p)),
      length-map (ties_of f) link_touch,
    )

own_at : (i : Stamp) (ps : List ℕ) (us : List Touch) (place p : ℕ) → Some p ≡ slice_get ps place
    → Some (i, p) ≡ slice_get (own_touches i ps ++ us) place
own_at i [] us zero p e = cc
own_at i [] us (suc k) p e = cc
own_at i (q ∷ ps) us zero p e = ap (option_map (λ (part : ℕ). (i, part))) e
own_at i (q ∷ ps) us (suc k) p e = own_at i ps us k p e

pub own_past : (ps : List ℕ) (place : ℕ) → None ≡ slice_get ps place → length ps ≤ place
own_past [] place e = omega arith
own_past (q ∷ ps) zero e = cc
own_past (q ∷ ps) (suc k) e = omega (arith, own_past ps k e)

link_at : (ts : List Tie) (j : ℕ)
    → slice_get (map link_touch ts) j ≡ option_map (λ (id : Stamp). (id, LINK)) (id_at ts j)
link_at [] j = refl
link_at (t ∷ ts) zero = refl
link_at (t ∷ ts) (suc j) = link_at ts j

behind_own : (i : Stamp) (ps : List ℕ) (us : List Touch) (place n : ℕ) → length ps + n ≡ place
    → slice_get (own_touches i ps ++ us) place ≡ slice_get us n
behind_own i [] us place n at = let same : place ≡ n = omega (arith, at) in ap (slice_get us) same
behind_own i (p ∷ ps) us zero n at = absurd (omega (arith, at))
behind_own i (p ∷ ps) us (suc k) n at = behind_own i ps us k n (omega (arith, at))

-- one of its own parts
pub first_at : (stamp : Stamp) (op : Op) (place part : ℕ) → Some part ≡ slice_get (own_parts (form stamp op)) place
    → Some (object_of (form stamp op), part) ≡ slice_get (touches stamp op) place
first_at stamp op place part at =
    let f = form stamp op in
    own_at (object_of f) (own_parts f) (map link_touch (ties_of f)) place part at
    ∙ ap (λ us. slice_get us place) (sym (touches-parts stamp op))

-- or a link behind those
pub later_at : (stamp : Stamp) (op : Op) (place count : ℕ) → count ≡ length (own_parts (form stamp op))
    → None ≡ slice_get (own_parts (form stamp op)) place
    → slice_get (touches stamp op) place
    ≡ option_map (λ (id : Stamp). (id, LINK)) (tied_at stamp op (place - count))
later_at stamp op place count is none =
    let f = form stamp op in
    let n = place - count in
    let at : length (own_parts f) + n ≡ place = omega (arith, is, own_past (own_parts f) place none) in
    ap (λ us. slice_get us place) (touches-parts stamp op)
    ∙ behind_own (object_of f) (own_parts f) (map link_touch (ties_of f)) place n at
    ∙ link_at (ties_of f) n

-- ---- tests of all

test_of : {X : Type 0} (p : X → Bool) (xs : List X) (k : ℕ)
    → list_all p (drop k xs) ≡ (unwrap_or (option_map p (slice_get xs k)) true && list_all p (drop (suc k) xs))
test_of p [] zero = refl
test_of p [] (suc k) = refl
test_of p (x ∷ xs) zero = refl
test_of p (x ∷ xs) (suc k) = test_of p xs k

-- one more passes, and the rest is left
pub passed : {X : Type 0} (p : X → Bool) (xs : List X) (k : ℕ) (r : Bool)
    → r ≡ unwrap_or (option_map p (slice_get xs k)) true → r ≡ true
    → list_all p (drop k xs) ≡ list_all p xs → list_all p (drop (k + 1) xs) ≡ list_all p xs
passed p xs k r is holds rest =
    let next : k + 1 ≡ suc k = omega arith in
    ap (λ n. list_all p (drop n xs)) next
    ∙ ap (λ b. b && list_all p (drop (suc k) xs)) (sym holds ∙ is)
    ∙ sym (test_of p xs k) ∙ rest

-- one doesn't pass
pub failed : {X : Type 0} (p : X → Bool) (xs : List X) (k : ℕ) (r : Bool)
    → r ≡ unwrap_or (option_map p (slice_get xs k)) true → r ≡ false
    → list_all p (drop k xs) ≡ list_all p xs → false ≡ list_all p xs
failed p xs k r is fails rest = ap (λ b. b && list_all p (drop (suc k) xs)) (sym fails ∙ is) ∙ sym (test_of p xs k)
    ∙ rest

none_left : {X : Type 0} (p : X → Bool) (xs : List X) (k : ℕ) → length xs ≤ k → true ≡ list_all p (drop k xs)
none_left p [] zero past = refl
none_left p [] (suc k) past = refl
none_left p (x ∷ xs) zero past = absurd (omega (arith, past))
none_left p (x ∷ xs) (suc k) past = none_left p xs k (omega (arith, past))

-- all have passed
pub ended : {X : Type 0} (p : X → Bool) (xs : List X) (k : ℕ) → length xs ≤ k → list_all p (drop k xs) ≡ list_all p xs
    → true ≡ list_all p xs
ended p xs k past rest = none_left p xs k past ∙ rest

-- ---- what a form covers

-- an operation covers what its form does
pub form_covers : (s t : Stamp) (e f : Op) (g : Form) → form t f ≡ g → covers_by g (form s e) ≡ covers t f s e
unfolding covers
form_covers s t e f g is = ap (λ h. covers_by h (form s e)) (sym is)

covered_set : (i : Stamp) (d : Content) (g : Form) → is_set_by i (parts_of d) g ≡ covers_by (Sets i d) g
covered_set i d (Sets j c) = refl
covered_set i d (Puts j o ts) = refl
covered_set i d (Takes j ts) = refl

-- a content covers what sets none but its parts of the same object
pub set_covers : (s t : Stamp) (e f : Kept) (is_found : Bool) (id : Stamp) (swap : Swap) → f ≡ Set is_found id swap
    → is_set_by id (parts_of (sets t swap)) (form s (op_of e)) ≡ covers t (op_of f) s (op_of e)
set_covers s t e f is_found id swap is =
    covered_set id (sets t swap) (form s (op_of e))
    ∙ form_covers s t (op_of e) (op_of f) (Sets id (sets t swap)) (ap (λ k. form t (op_of k)) is)

-- the same by the parts that its operation says
pub said_covers : (s t : Stamp) (e f : Kept) (is_found : Bool) (id : Stamp) (swap : Swap) → f ≡ Set is_found id swap
    → is_set_by id (parts_of (of_swap swap)) (form s (op_of e)) ≡ covers t (op_of f) s (op_of e)
said_covers s t e f is_found id swap is =
    ap (λ ps. is_set_by id ps (form s (op_of e))) (sym (part_sets t swap)) ∙ set_covers s t e f is_found id swap is

-- what sets none but those parts of that object
pub set_same : (s i j : Stamp) (ps : List ℕ) (e : Kept) (is_found : Bool) (swap : Swap) (r : Bool)
    → e ≡ Set is_found j swap
    → is_same i j ≡ true → r ≡ have_parts ps (parts_of (sets s swap)) → r ≡ is_set_by i ps (form s (op_of e))
set_same s i j ps e is_found swap r is same h =
    h ∙ ap (λ b. b && have_parts ps (parts_of (sets s swap))) (sym same)
    ∙ ap (λ k. is_set_by i ps (form s (op_of k))) (sym is)

some_by : (n : ℕ) (b : Bool) → (suc n == 0) ≡ b → false ≡ (suc n == 0)
some_by n true e = absurd (omega (arith, eqb-true (suc n) 0 e))
some_by n false e = sym e

some : (n : ℕ) → false ≡ (suc n == 0)
some n = some_by n (suc n == 0) refl

-- what takes an object and ties nothing covers what is of that object and ties nothing
pub taken : (id : Stamp) (ts : List Tie) (f : Form)
    → covers_by (Takes id ts) f ≡ ((length ts == 0) && ((length (ties_of f) == 0) && is_same id (object_of f)))
taken id [] (Sets j c) = refl
taken id [] (Puts j o []) = refl
taken id [] (Puts j o (t ∷ ts)) = ap (λ b. b && is_same id j) (some (length ts))
taken id [] (Takes j []) = refl
taken id [] (Takes j (t ∷ ts)) = ap (λ b. b && is_same id j) (some (length ts))
taken id (u ∷ us) f = ap (λ b. b && ((length (ties_of f) == 0) && is_same id (object_of f))) (some (length us))

-- what covers ties nothing
pub no_ties : (id : Stamp) (ts : List Tie) (f : Form) → covers_by (Takes id ts) f ≡ true → ts ≡ []
no_ties id [] f e = refl
no_ties id (u ∷ us) f e = cc
