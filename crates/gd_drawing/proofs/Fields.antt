-- The parts of an object that contents are put into, one by one: what stands in each, and which of them a content sets.
-- What is set there doesn't hang on the object, and all else stays.
use Rattle.std.proofs.Common.{◌≡◌, ℕ, pos, Bool, true, false, cond, ◌||◌, List, [], ◌∷◌, ◌++◌, Option, Some, None, refl}
use Rattle.std.proofs.Common.{sym, ap, ◌∙◌, eqb-true, eq-eqb}
use Rattle.std.specs.Prelude.{is_some, unwrap_or, ◌==◌}
use Rattle.std.proofs.lemmas.Bool.{and_parts}
use Rattle.gd_base.specs.Looks.{instead, no_looks}
use Rattle.gd_base.specs.declared.content.Content.TheVariants as content
use Rattle.gd_base.specs.declared.look.Dash.TheVariants.{Solid}
use Rattle.gd_base.specs.declared.look.Heads.TheVariants.{Bare}
use Rattle.gd_base.specs.declared.look.Looks.{Looks}
use Rattle.gd_base.specs.declared.object.Link.{Link}
use Rattle.gd_base.specs.declared.rank.Rank.TheVariants.{High}
use Rattle.gd_base.specs.Whole.{Object}
use Rattle.gd_model.specs.Contents.{Content}
use Rattle.gd_model.specs.Objects.{have_parts, is_among, is_same_part, look_parts, old, or_whole, part_if, parts_of}
use Rattle.gd_model.specs.Objects.{put, with_link}
use Rattle.gd_drawing.proofs.ContentLaws.{IsOver, old_tied, same_object}
use Rattle.gd_drawing.proofs.Lookups.{cond_same}

pub data Field : Type 0 where
  Place : Field
  Size : Field
  Stroke : Field
  Fill : Field
  Width : Field
  Words : Field
  Flag : Field
  Height : Field
  Dashes : Field
  Tips : Field
  Corners : Field
  Opacity : Field
  Letters : Field
  Side : Field
  Ends : Field

-- a content that sets that part alone
abbrev pub alone : Field → Content
alone Place = content.ToPlace (pos 0) (pos 0)
alone Size = content.ToSize (pos 0) (pos 0)
alone Stroke = content.ToLooks (record no_looks { stroke = Some 0 })
alone Fill = content.ToLooks (record no_looks { fill = Some None })
alone Width = content.ToLooks (record no_looks { width = Some 0 })
alone Words = content.ToText []
alone Flag = content.ToFlag false
alone Height = content.ToRank (High record { clock = 0; site = 0 })
alone Dashes = content.ToLooks (record no_looks { dash = Some Solid })
alone Tips = content.ToLooks (record no_looks { heads = Some Bare })
alone Corners = content.ToLooks (record no_looks { round = Some None })
alone Opacity = content.ToLooks (record no_looks { opacity = Some 0 })
alone Letters = content.ToLooks (record no_looks { letters = Some None })
alone Side = content.ToLooks (record no_looks { align = Some None })
alone Ends = content.ToEnds None

-- what stands in that part
abbrev pub at : Field → Object → Content
at f o = old (alone f) o

abbrev first : List ℕ → ℕ
first [] = 0
first (p ∷ ps) = p

-- the number of the part that a content of one part is for
abbrev part_of : Content → ℕ
part_of c = first (parts_of c)

abbrev pub number : Field → ℕ
number f = part_of (alone f)

-- a part that is there where it is set, behind other ones
abbrev behind : Bool → Bool → ℕ → ℕ → Bool
behind front set p q = cond (q == p) (front || set) front

-- whether that part of the look is set
abbrev has_part : Looks → ℕ → Bool
has_part l q =
    behind (behind (behind (behind (behind (behind (behind (behind (behind false (is_some l.stroke) 3 q)
    (is_some l.fill) 4 q) (is_some l.width) 5 q) (is_some l.dash) 10 q) (is_some l.heads) 11 q) (is_some l.round) 12 q)
    (is_some l.opacity) 13 q) (is_some l.letters) 14 q) (is_some l.align) 15 q

-- whether the content sets that part
abbrev pub sets : Field → Content → Bool
sets f (content.ToLooks l) = has_part l (number f)
sets f c = is_among (parts_of c) (number f)

-- ---- one part of a look

new_alike : {A : Type 0} (set : Option A) (x y : A) → is_some set ≡ true → unwrap_or set x ≡ unwrap_or set y
new_alike None x y e = cc
new_alike (Some z) x y e = refl

new_kept : {A : Type 0} (set : Option A) (x : A) → is_some set ≡ false → unwrap_or set x ≡ x
new_kept None x e = refl
new_kept (Some z) x e = cc

found_alike : {A : Type 0} (set : Option A) (x y : A) → (is_some set ≡ true → x ≡ y) → instead set x ≡ instead set y
found_alike None x y h = refl
found_alike (Some z) x y h = ap Some (h refl)

-- ---- what a content sets, and what it leaves

-- what is set doesn't hang on the object
pub at_set : (f : Field) (c : Content) (x y : Object) → sets f c ≡ true → at f (put c x) ≡ at f (put c y)
at_set Stroke (content.ToLooks l) x y e =
    λ i. content.ToLooks (record no_looks { stroke = Some (new_alike l.stroke x.look.stroke y.look.stroke e i) })
at_set Fill (content.ToLooks l) x y e =
    λ i. content.ToLooks (record no_looks { fill = Some (new_alike l.fill x.look.fill y.look.fill e i) })
at_set Width (content.ToLooks l) x y e =
    λ i. content.ToLooks (record no_looks { width = Some (new_alike l.width x.look.width y.look.width e i) })
at_set Dashes (content.ToLooks l) x y e =
    λ i. content.ToLooks (record no_looks { dash = Some (new_alike l.dash x.look.dash y.look.dash e i) })
at_set Tips (content.ToLooks l) x y e =
    λ i. content.ToLooks (record no_looks { heads = Some (new_alike l.heads x.look.heads y.look.heads e i) })
at_set Corners (content.ToLooks l) x y e =
    λ i. content.ToLooks (record no_looks { round = Some (new_alike l.round x.look.round y.look.round e i) })
at_set Opacity (content.ToLooks l) x y e =
    λ i. content.ToLooks (record no_looks { opacity = Some (new_alike l.opacity x.look.opacity y.look.opacity e i) })
at_set Letters (content.ToLooks l) x y e =
    λ i. content.ToLooks (record no_looks { letters = Some (new_alike l.letters x.look.letters y.look.letters e i) })
at_set Side (content.ToLooks l) x y e =
    λ i. content.ToLooks (record no_looks { align = Some (new_alike l.align x.look.align y.look.align e i) })
at_set f (content.ToPlace a b) x y e = cc
at_set f c x y e = cc

-- and what isn't stays
pub at_kept : (f : Field) (c : Content) (o : Object) → sets f c ≡ false → at f (put c o) ≡ at f o
at_kept Stroke (content.ToLooks l) o e =
    λ i. content.ToLooks (record no_looks { stroke = Some (new_kept l.stroke o.look.stroke e i) })
at_kept Fill (content.ToLooks l) o e =
    λ i. content.ToLooks (record no_looks { fill = Some (new_kept l.fill o.look.fill e i) })
at_kept Width (content.ToLooks l) o e =
    λ i. content.ToLooks (record no_looks { width = Some (new_kept l.width o.look.width e i) })
at_kept Dashes (content.ToLooks l) o e =
    λ i. content.ToLooks (record no_looks { dash = Some (new_kept l.dash o.look.dash e i) })
at_kept Tips (content.ToLooks l) o e =
    λ i. content.ToLooks (record no_looks { heads = Some (new_kept l.heads o.look.heads e i) })
at_kept Corners (content.ToLooks l) o e =
    λ i. content.ToLooks (record no_looks { round = Some (new_kept l.round o.look.round e i) })
at_kept Opacity (content.ToLooks l) o e =
    λ i. content.ToLooks (record no_looks { opacity = Some (new_kept l.opacity o.look.opacity e i) })
at_kept Letters (content.ToLooks l) o e =
    λ i. content.ToLooks (record no_looks { letters = Some (new_kept l.letters o.look.letters e i) })
at_kept Side (content.ToLooks l) o e =
    λ i. content.ToLooks (record no_looks { align = Some (new_kept l.align o.look.align e i) })
at_kept f (content.ToPlace a b) o e = cc
at_kept f c o e = cc

pub at_tied : (f : Field) (link : Option Link) (o : Object) → at f (with_link link o) ≡ at f o
at_tied f link o = old_tied (alone f) link o

-- ---- what a content finds follows from the parts that it sets

abbrev looks_in : Content → Looks
looks_in (content.ToLooks l) = l
looks_in c = no_looks

pub old_by : (c : Content) (x y : Object) → ((f : Field) → sets f c ≡ true → at f x ≡ at f y) → old c x ≡ old c y
old_by (content.ToLooks l) x y h =
    let seen = λ (f : Field) (e : sets f (content.ToLooks l) ≡ true). ap looks_in (h f e) in
    λ i. content.ToLooks (record {
      stroke = found_alike l.stroke x.look.stroke y.look.stroke
          (λ e. ap (λ (k : Looks). unwrap_or k.stroke x.look.stroke) (seen Stroke e)) i;
      fill = found_alike l.fill x.look.fill y.look.fill
          (λ e. ap (λ (k : Looks). unwrap_or k.fill x.look.fill) (seen Fill e)) i;
      width = found_alike l.width x.look.width y.look.width
          (λ e. ap (λ (k : Looks). unwrap_or k.width x.look.width) (seen Width e)) i;
      dash = found_alike l.dash x.look.dash y.look.dash
          (λ e. ap (λ (k : Looks). unwrap_or k.dash x.look.dash) (seen Dashes e)) i;
      heads = found_alike l.heads x.look.heads y.look.heads
          (λ e. ap (λ (k : Looks). unwrap_or k.heads x.look.heads) (seen Tips e)) i;
      round = found_alike l.round x.look.round y.look.round
          (λ e. ap (λ (k : Looks). unwrap_or k.round x.look.round) (seen Corners e)) i;
      opacity = found_alike l.opacity x.look.opacity y.look.opacity
          (λ e. ap (λ (k : Looks). unwrap_or k.opacity x.look.opacity) (seen Opacity e)) i;
      letters = found_alike l.letters x.look.letters y.look.letters
          (λ e. ap (λ (k : Looks). unwrap_or k.letters x.look.letters) (seen Letters e)) i;
      align = found_alike l.align x.look.align y.look.align
          (λ e. ap (λ (k : Looks). unwrap_or k.align x.look.align) (seen Side e)) i;
    })
old_by (content.ToPlace a b) x y h = h Place refl
old_by (content.ToSize a b) x y h = h Size refl
old_by (content.ToText label) x y h = h Words refl
old_by (content.ToFlag flag) x y h = h Flag refl
old_by (content.ToEnds ends) x y h = h Ends refl
old_by (content.ToRank rank) x y h = h Height refl

-- an object is its kind, its link and what stands in its parts
pub same_fields : (x y : Object) → x.kind ≡ y.kind → x.link ≡ y.link → ((f : Field) → at f x ≡ at f y) → x ≡ y
same_fields x y kind link each = same_object x y kind link (λ c. old_by c x y (λ f e. each f))

-- ---- the numbers of the parts

pub not_whole : (f : Field) → is_same_part (number f) 0 ≡ false
not_whole Place = refl
not_whole f = refl

pub is_itself : (f : Field) → is_same_part (number f) (number f) ≡ true
is_itself f = eq-eqb (number f) (number f) refl

or_none : (b : Bool) → (b || false) ≡ b
or_none true = refl
or_none false = refl

among-append : (ps qs : List ℕ) (q : ℕ) → is_among (ps ++ qs) q ≡ (is_among ps q || is_among qs q)
among-append [] qs q = refl
among-append (p ∷ ps) qs q = ap (λ b. is_same_part q p || b) (among-append ps qs q) ∙ by (is_same_part q p)
  where
    by : (b : Bool) → (b || (is_among ps q || is_among qs q)) ≡ ((b || is_among ps q) || is_among qs q)
    by true = refl
    by false = refl

among_first : {A : Type 0} (set : Option A) (p q : ℕ) → is_among (part_if set p) q ≡ behind false (is_some set) p q
among_first None p q = sym (cond_same (q == p) false)
among_first (Some x) p q = by (q == p)
  where
    by : (b : Bool) → (b || false) ≡ cond b true false
    by true = refl
    by false = refl

among_behind : {A : Type 0} (ps : List ℕ) (set : Option A) (p q : ℕ) (front : Bool) → is_among ps q ≡ front
    → is_among (ps ++ part_if set p) q ≡ behind front (is_some set) p q
among_behind ps set p q front e =
    among-append ps (part_if set p) q ∙ (λ i. e i || among_first set p q i) ∙ by front (is_some set) (q == p)
  where
    by : (f s b : Bool) → (f || cond b s false) ≡ cond b (f || s) f
    by f s true = refl
    by f s false = or_none f

among_whole : (ps : List ℕ) (q : ℕ) → is_same_part q 0 ≡ false → is_among (or_whole ps) q ≡ is_among ps q
among_whole [] q e = or_none (q == 0) ∙ e
among_whole (p ∷ ps) q e = refl

among_looks : (l : Looks) (q : ℕ) → is_same_part q 0 ≡ false → is_among (or_whole (look_parts l)) q ≡ has_part l q
among_looks l q e =
    among_whole (look_parts l) q e
    ∙ among_behind _ l.align 15 q _ (among_behind _ l.letters 14 q _ (among_behind _ l.opacity 13 q _
    (among_behind _ l.round 12 q _ (among_behind _ l.heads 11 q _ (among_behind _ l.dash 10 q _
    (among_behind _ l.width 5 q _ (among_behind _ l.fill 4 q _ (among_first l.stroke 3 q))))))))

-- the parts of a content are those that it sets
pub among : (f : Field) (c : Content) → is_among (parts_of c) (number f) ≡ sets f c
among f (content.ToLooks l) = among_looks l (number f) (not_whole f)
among f c = refl

-- ---- the parts of two contents

-- one part at least
pub some_part : (c : Content) → (p : ℕ) × (is_among (parts_of c) p ≡ true)
some_part (content.ToLooks l) = by (look_parts l)
  where
    by : (ps : List ℕ) → (p : ℕ) × (is_among (or_whole ps) p ≡ true)
    by [] = (0, refl)
    by (p ∷ ps) = (p, ap (λ b. b || is_among ps p) (eq-eqb p p refl))
some_part c = (part_of c, refl)

have_one : (ps qs : List ℕ) (q : ℕ) → have_parts ps qs ≡ true → is_among qs q ≡ true → is_among ps q ≡ true
have_one ps [] q h e = cc
have_one ps (r ∷ rs) q h e =
    let both = and_parts (is_among ps r) (have_parts ps rs) h in
    elim (q == r) as (λ b. (q == r) ≡ b → (b || is_among rs q) ≡ true → is_among ps q ≡ true) [
      | true ↦ λ same k. ap (is_among ps) (eqb-true q r same) ∙ both.0
      | false ↦ λ other k. have_one ps rs q both.1 k
    ] refl e

-- what has all parts of another content sets what that one sets
sets_too : (f : Field) (d c : Content) → have_parts (parts_of d) (parts_of c) ≡ true → sets f c ≡ true
    → sets f d ≡ true
sets_too f d c h e = sym (among f d) ∙ have_one (parts_of d) (parts_of c) (number f) h (among f c ∙ e)

-- a part that the look doesn't set: the look lacks it, and it lacks the look
module _ (l : Looks) (p : ℕ) (whole : is_same_part p 0 ≡ false) (none : has_part l p ≡ false) where
  look_lacks : have_parts (or_whole (look_parts l)) (p ∷ []) ≡ true → false ≡ true
  look_lacks h = sym (among_looks l p whole ∙ none) ∙ (and_parts (is_among (or_whole (look_parts l)) p) true h).0

  part_lacks : have_parts (p ∷ []) (or_whole (look_parts l)) ≡ true → false ≡ true
  part_lacks h =
      let some = some_part (content.ToLooks l) in
      let here = have_one (p ∷ []) (or_whole (look_parts l)) some.0 h some.1 in
      let same : some.0 ≡ p = eqb-true some.0 p (sym (or_none (some.0 == p)) ∙ here) in
      sym (among_looks l p whole ∙ none) ∙ ap (is_among (or_whole (look_parts l))) (sym same) ∙ some.1

pub is_over : (d c : Content) → have_parts (parts_of d) (parts_of c) ≡ true → IsOver d c
is_over (content.ToLooks d) (content.ToLooks c) h =
    let set = λ (f : Field). sets_too f (content.ToLooks d) (content.ToLooks c) h in
    record {
      stroke = set Stroke;
      fill = set Fill;
      width = set Width;
      dash = set Dashes;
      heads = set Tips;
      round = set Corners;
      opacity = set Opacity;
      letters = set Letters;
      align = set Side;
    }
is_over (content.ToLooks d) c h = look_lacks d (part_of c) refl refl h
is_over d (content.ToLooks c) h = part_lacks c (part_of d) refl refl h
is_over d c h = h
