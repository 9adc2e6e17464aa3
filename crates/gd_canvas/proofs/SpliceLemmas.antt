-- What two events find, the one in front of the other that covers it.
use Rattle.std.proofs.Common.{◌≡◌, ◌≤◌, ℕ, not, Bool, true, false, cond, ◌&&◌, List, [], ◌∷◌, length, Option, None}
use Rattle.std.proofs.Common.{Some, refl, sym, ap, subst, ◌∙◌, arith}
use Rattle.std.specs.Prelude.{is_some, option_and_then, option_map, unwrap_or}
use Rattle.gd_base.specs.Stamps.{Stamp, is_same}
use Rattle.gd_base.proofs.StampLemmas.{is_same-true}
use Rattle.gd_model.specs.declared.form.Form.{Form}
use Rattle.gd_model.specs.declared.form.Form.TheVariants.{Sets, Puts, Takes}
use Rattle.gd_base.specs.Whole.{Object}
use Rattle.gd_base.specs.declared.ties.Tie.{Tie}
use Rattle.gd_model.specs.Contents.{Content}
use Rattle.gd_model.specs.Forms.{form}
use Rattle.gd_model.specs.Objects.{fits, have_parts, laid_over, old, part_within, parts_of, put, set}
use Rattle.gd_model.specs.Relations.{covers_by}
use Rattle.gd_model.specs.Splices.{splice, splice_by, splice_set}
use Rattle.gd_model.specs.Undoing.{Before, old_in}
use Rattle.gd_canvas.specs.declared.kept.Kept.{Kept}
use Rattle.gd_canvas.specs.declared.kept.Kept.TheVariants.{Set}
use Rattle.gd_canvas.specs.declared.swap.Swap.{Swap}
use Rattle.gd_canvas.specs.Kept.{before_of, label_in, of_found, of_made, of_taken, op_of}
use Rattle.gd_canvas.specs.Settings.{replaced_by}
use Rattle.gd_canvas.specs.Swaps.{found_in, of_swap, old_of, sets, stored}
use Rattle.gd_canvas.specs.Touches.{is_set_by, sets_parts}
use Rattle.gd_canvas.proofs.FormLemmas.{old_found}
use Rattle.gd_canvas.proofs.SwapLemmas.{part_sets, stored_found}

abbrev Pair : Type 0
Pair = Before × Before

-- ---- both set parts of one object

-- the earlier one finds of its parts what the later one found, and what it sets the later one finds
passed_on : (j id : Stamp) (new : Content) (is_found : Bool) (first second later : Swap)
    → old_of first ≡ part_within new (old_of later) → old_of second ≡ laid_over new (old_of later)
    → ◌≡◌ {A = Pair} (of_found j (found_in is_found first), of_found id (found_in is_found second))
    (splice_set j new (of_found id (found_in is_found later)))
passed_on j id new true first second later e g = λ i. (Some (Sets j (e i)), Some (Sets id (g i)))
passed_on j id new false first second later e g = refl

-- ---- the later one deletes an object

-- a content finds what it would in the object that is deleted, and leaves its own there
set_deleted : (id : Stamp) (c : Content) (x : Option Object)
    → ◌≡◌ {A = Pair} (of_found id (old_in c x), of_taken id [] (option_map (set c) x))
    (splice_by (Sets id c) (Takes id []) (of_taken id [] x))
set_deleted id c None = refl
set_deleted id c (Some o) = by (fits c o.kind)
  where
    by : (b : Bool)
        → ◌≡◌ {A = Pair} (of_found id (cond b (Some (old c o)) None), of_taken id [] (Some (cond b (put c o) o)))
        (cond b (Some (Sets id (old c o)), Some (Puts id (put c o) [])) (None, Some (Puts id o [])))
    by true = refl
    by false = refl

pub set_then_deleted : (id j : Stamp) (c : Content) (x : Option Object) → is_same id j ≡ true
    → ◌≡◌ {A = Pair} (of_found j (old_in c x), of_taken id [] (option_map (set c) x))
    (splice_by (Sets j c) (Takes id []) (of_taken id [] x))
set_then_deleted id j c x same =
    let P : Stamp → Type 0
    = λ q. ◌≡◌ {A = Pair} (of_found q (old_in c x), of_taken id [] (option_map (set c) x))
    (splice_by (Sets q c) (Takes id []) (of_taken id [] x)) in
    subst P (is_same-true id j same) (set_deleted id c x)

-- an object is made where none is found
put_deleted : (id : Stamp) (o : Object) (ties : List Tie) (x : Option Object)
    → ◌≡◌ {A = Pair} (of_made (not (is_some x)) id [], of_taken id [] (Some (unwrap_or x o)))
    (splice_by (Puts id o ties) (Takes id []) (of_taken id [] x))
put_deleted id o ties None = refl
put_deleted id o ties (Some p) = refl

pub put_then_deleted : (id s : Stamp) (o : Object) (ties : List Tie) (x : Option Object) → is_same id s ≡ true
    → ◌≡◌ {A = Pair} (of_made (not (is_some x)) s [], of_taken id [] (Some (unwrap_or x o)))
    (splice_by (Puts s o ties) (Takes id []) (of_taken id [] x))
put_then_deleted id s o ties x same =
    let P : Stamp → Type 0
    = λ q. ◌≡◌ {A = Pair} (of_made (not (is_some x)) s [], of_taken q [] (Some (unwrap_or x o)))
    (splice_by (Puts s o ties) (Takes q []) (of_taken q [] x)) in
    subst P (sym (is_same-true id s same)) (put_deleted s o ties x)

-- the earlier one of two that take the object finds it
pub deleted_twice : (id j : Stamp) (ties : List Tie) (x : Option Object) → is_same id j ≡ true
    → ◌≡◌ {A = Pair} (of_taken j [] x, None) (splice_by (Takes j ties) (Takes id []) (of_taken id [] x))
deleted_twice id j ties x same =
    let P : Stamp → Type 0
    = λ q. ◌≡◌ {A = Pair} (of_taken j [] x, None) (splice_by (Takes j ties) (Takes q []) (of_taken q [] x)) in
    subst P (sym (is_same-true id j same)) refl

-- what a delete covers is of its object
pub same_object : (id s : Stamp) (o : Object) (ties : List Tie) → covers_by (Takes id []) (Puts s o ties) ≡ true
    → is_same id s ≡ true
same_object id s o [] e = e
same_object id s o (t ∷ ts) e = cc

pub taken_object : (id s : Stamp) (ties : List Tie) → covers_by (Takes id []) (Takes s ties) ≡ true
    → is_same id s ≡ true
taken_object id s [] e = e
taken_object id s (t ∷ ts) e = cc

-- where nothing is tied there are no old links
pub no_olds : (ties olds : List Tie) → length olds ≤ length ties → ties ≡ [] → olds ≡ []
no_olds ties [] few none = refl
no_olds ties (o ∷ os) few none = absurd (omega (arith, few, ap length none))

-- ---- the same of what is kept

-- a kept event is spliced as what it was found to be
pub spliced : (s t : Stamp) (e f found : Kept) → f ≡ found
    → ◌≡◌ {A = Pair} (splice_by (form s (op_of e)) (form t (op_of found)) (before_of found))
    (splice s (op_of e) t (op_of f) (before_of f))
unfolding splice
spliced s t e f found is = ap (λ k. splice_by (form s (op_of e)) (form t (op_of k)) (before_of k)) (sym is)

second_holds : (s t : Bool) → (s && t) ≡ true → t ≡ true
second_holds true t e = e
second_holds false t e = cc

pub parts_cover : (id : Stamp) (ps : List ℕ) (g : Form) → is_set_by id ps g ≡ true → sets_parts ps g ≡ true
parts_cover id ps (Sets j c) e = second_holds (is_same id j) (have_parts ps (parts_of c)) e
parts_cover id ps (Puts j o ts) e = e
parts_cover id ps (Takes j ts) e = e

-- what the earlier one sets, as its operation says it
pub set_parts : (s : Stamp) (ps : List ℕ) (e : Kept) (was_found : Bool) (j : Stamp) (earlier : Swap)
    → e ≡ Set was_found j earlier → sets_parts ps (form s (op_of e)) ≡ true
    → have_parts ps (parts_of (of_swap earlier)) ≡ true
set_parts s ps e was_found j earlier is h =
    ap (have_parts ps) (sym (part_sets s earlier)) ∙ ap (λ k. sets_parts ps (form s (op_of k))) (sym is) ∙ h

-- both set parts of one object
pub set_spliced : (s id : Stamp) (c : Content) (e : Kept) (was_found is_found : Bool) (j : Stamp)
    (earlier first later second : Swap) → e ≡ Set was_found j earlier
    → old_of first ≡ part_within (sets s earlier) (old_of later)
    → old_of second ≡ laid_over (sets s earlier) (old_of later)
    → ◌≡◌ {A = Pair} (of_found j (found_in is_found first), of_found id (found_in is_found second))
    (splice_by (form s (op_of e)) (Sets id c) (of_found id (found_in is_found later)))
set_spliced s id c e was_found is_found j earlier first later second is passed_first passed_second =
    passed_on j id (sets s earlier) is_found first second later passed_first passed_second
    ∙ ap (λ k. splice_by (form s (op_of k)) (Sets id c) (of_found id (found_in is_found later))) (sym is)

-- the later one takes an object: that the earlier one puts
pub put_spliced : (id j : Stamp) (g : Form) (o : Object) (ties : List Tie) (made : Bool) (x later : Option Object)
    → g ≡ Puts j o ties
    → covers_by (Takes id []) g ≡ true → made ≡ not (is_some x) → later ≡ Some (unwrap_or x o)
    → ◌≡◌ {A = Pair} (of_made made j [], of_taken id [] later) (splice_by g (Takes id []) (of_taken id [] x))
put_spliced id j g o ties made x later is cov m l =
    let same = same_object id j o ties (ap (covers_by (Takes id [])) (sym is) ∙ cov) in
    (λ i. (of_made (m i) j [], of_taken id [] (l i)))
    ∙ put_then_deleted id j o ties x same
    ∙ ap (λ f. splice_by f (Takes id []) (of_taken id [] x)) (sym is)

-- that it takes
pub taken_spliced : (id j : Stamp) (g : Form) (ties : List Tie) (x y later : Option Object) → g ≡ Takes j ties
    → covers_by (Takes id []) g ≡ true → y ≡ x → later ≡ None
    → ◌≡◌ {A = Pair} (of_taken j [] y, of_taken id [] later) (splice_by g (Takes id []) (of_taken id [] x))
taken_spliced id j g ties x y later is cov m l =
    let same = taken_object id j ties (ap (covers_by (Takes id [])) (sym is) ∙ cov) in
    (λ i. (of_taken j [] (m i), of_taken id [] (l i)))
    ∙ deleted_twice id j ties x same
    ∙ ap (λ f. splice_by f (Takes id []) (of_taken id [] x)) (sym is)

-- that it sets parts of. What was found is kept, and the object has what is held
pub set_taken : (s id : Stamp) (e : Kept) (is_found now : Bool) (j : Stamp) (swap after : Swap) (held : Content)
    (x : Option Content) (o later : Option Object)
    → e ≡ Set is_found j swap → covers_by (Takes id []) (form s (op_of e)) ≡ true
    → held ≡ sets s swap → x ≡ option_and_then (replaced_by held) o → found_in now after ≡ stored swap x
    → later ≡ option_map (set held) o
    → ◌≡◌ {A = Pair} (of_found j (found_in now after), of_taken id [] later)
    (splice_by (form s (op_of e)) (Takes id []) (of_taken id [] o))
set_taken s id e is_found now j swap after held x o later is cov h found keeps l =
    let same : is_same id j ≡ true = ap (λ k. covers_by (Takes id []) (form s (op_of k))) (sym is) ∙ cov in
    let first : found_in now after ≡ old_in (sets s swap) o =
    keeps ∙ ap (stored swap) (found ∙ old_found held o ∙ ap (λ k. old_in k o) h) ∙ stored_found s swap o in
    let second : later ≡ option_map (set (sets s swap)) o = l ∙ ap (λ k. option_map (set k) o) h in
    (λ i. (of_found j (first i), of_taken id [] (second i)))
    ∙ set_then_deleted id j (sets s swap) o same
    ∙ ap (λ k. splice_by (form s (op_of k)) (Takes id []) (of_taken id [] o)) (sym is)
