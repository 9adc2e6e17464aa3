-- The parts of looks, and of what swaps set.
use Rattle.std.proofs.Common.{◌≡◌, ℕ, ◌<◌, ◌==◌, true, false, List, [], ◌∷◌, length, Option, None}
use Rattle.std.proofs.Common.{Some, refl, subst, sym, arith, lit<}
use Rattle.std.specs.Prelude.{All}
use Rattle.std.proofs.lemmas.Bool.{eqb-true}
use Rattle.std.proofs.lemmas.List.Elements.{All-nil, All-cons, All-append}
use Rattle.gd_base.specs.declared.content.Content.TheVariants as content
use Rattle.gd_base.specs.declared.look.Looks.{Looks}
use Rattle.gd_model.specs.declared.content.TheConstants.{PARTS}
use Rattle.gd_model.specs.declared.form.Form.{Form}
use Rattle.gd_model.specs.declared.form.Form.TheVariants.{Sets, Puts, Takes}
use Rattle.gd_model.specs.Contents.{Content}
use Rattle.gd_model.specs.Objects.{look_parts, or_whole, part_if, parts_of}
use Rattle.gd_canvas.specs.Touches.{own_parts}

pub none_whole : (ps : List ℕ) → (length ps == 0) ≡ true → 0 ∷ [] ≡ or_whole ps
none_whole [] none = refl
none_whole (p ∷ ps) none = absurd (omega (arith, eqb-true (length (p ∷ ps)) 0 none))

pub some_whole : (ps : List ℕ) → (length ps == 0) ≡ false → ps ≡ or_whole ps
some_whole [] some = cc
some_whole (p ∷ ps) some = refl

pub some_there : (ps : List ℕ) → (length ps == 0) ≡ false → 0 < length ps
some_there [] some = cc
some_there (p ∷ ps) some = omega arith

pub ruleset whole = (none_whole, some_whole, some_there)

-- ---- one at least

some_parts : (ps : List ℕ) → 0 < length (or_whole ps)
some_parts [] = lit< tt
some_parts (p ∷ ps) = omega arith

content_parts : (c : Content) → 0 < length (parts_of c)
content_parts (content.ToLooks looks) = some_parts (look_parts looks)
content_parts c = lit< tt

pub form_parts : (f : Form) → 0 < length (own_parts f)
form_parts (Sets id c) = content_parts c
form_parts (Puts id o ties) = lit< tt
form_parts (Takes id ties) = lit< tt

-- ---- each is the number of a part

abbrev IsPart : ℕ → Type 0
IsPart p = p < PARTS

part_number : {A : Type 0} (set : Option A) (p : ℕ) → p < PARTS → All IsPart (part_if set p)
part_number None p few = All-nil IsPart
part_number (Some x) p few = All-cons IsPart p [] few (All-nil IsPart)

whole_number : (ps : List ℕ) → All IsPart ps → All IsPart (or_whole ps)
whole_number [] few = All-cons IsPart 0 [] (lit< tt) (All-nil IsPart)
whole_number (p ∷ ps) few = few

pub parts_few : (l : Looks) (parts : List ℕ) → parts ≡ or_whole (look_parts l) → All IsPart parts
parts_few l parts are =
    let few =
    All-append IsPart _ _
    (All-append IsPart _ _
    (All-append IsPart _ _ (All-append IsPart _ _ (All-append IsPart _ _ (All-append IsPart _ _
    (All-append IsPart _ _ (All-append IsPart _ _ (part_number l.stroke 3 (lit< tt)) (part_number l.fill 4 (lit< tt)))
    (part_number l.width 5 (lit< tt)))
    (part_number l.dash 10 (lit< tt))) (part_number l.heads 11 (lit< tt))) (part_number l.round 12 (lit< tt)))
    (part_number l.opacity 13 (lit< tt)))
    (part_number l.letters 14 (lit< tt))) (part_number l.align 15 (lit< tt)) in
    subst (All IsPart) (sym are) (whole_number (look_parts l) few)
