-- What swaps keep of what is found, and what two of them pass on.
use Rattle.std.proofs.Common.{◌≡◌, ℕ, List, [], ◌∷◌, Bool, true, false, cond, Option, None, Some, refl, sym, ap}
use Rattle.std.proofs.Common.{subst, ◌∙◌}
use Rattle.std.specs.Prelude.{◌||◌, is_some, unwrap_or}
use Rattle.gd_base.specs.Contents.{content_map}
use Rattle.gd_base.specs.Looks.{has_mark, instead, kept, laid, only_fill, only_stroke, only_width, put_over, taken}
use Rattle.gd_base.specs.Looks.{within}
use Rattle.gd_base.specs.Stamps.{Stamp}
use Rattle.gd_base.specs.declared.content.Content as over
use Rattle.gd_base.specs.declared.content.Content.TheVariants as content
use Rattle.gd_base.specs.declared.content.Height.{Height}
use Rattle.gd_base.specs.declared.op.Nothing.{Nothing}
use Rattle.gd_base.specs.declared.look.Look.{Look}
use Rattle.gd_base.specs.declared.look.Looks.{Looks}
use Rattle.gd_base.specs.Whole.{Object}
use Rattle.gd_events.specs.Ops.{Done}
use Rattle.gd_model.specs.Contents.{Content}
use Rattle.gd_model.specs.Forms.{rank_at}
use Rattle.gd_model.specs.Objects.{fits, have_parts, laid_over, old, part_within, parts_of}
use Rattle.gd_model.specs.Undoing.{old_in}
use Rattle.gd_drawing.proofs.ContentLaws.{AreSetBy, IsOver}
use Rattle.gd_drawing.proofs.Fields.{is_over}
use Rattle.gd_canvas.specs.declared.looks_swap.LooksSwap.{LooksSwap}
use Rattle.gd_canvas.specs.declared.looks_swap.LooksSwap.TheVariants as looks
use Rattle.gd_canvas.specs.declared.pair.Pair.{Pair}
use Rattle.gd_canvas.specs.declared.swap.Swap.{Swap}
use Rattle.gd_canvas.specs.declared.swap.Swap.TheVariants as swap
use Rattle.gd_canvas.specs.Swaps.{found_in, new_looks, of_swap, old_looks, old_of, put_looks, sets, stored, stored_one}
use Rattle.gd_canvas.specs.Swaps.{first_part, pair_new, pair_old, pair_stored}

-- ---- a lone part

none_by : {A : Type 0} (x : Option A) → is_some x ≡ false → None ≡ x
none_by None e = refl
none_by (Some a) e = cc

or_first : (s t : Bool) → (s || t) ≡ false → s ≡ false
or_first true t e = cc
or_first false t e = refl

or_rest : (s t : Bool) → (s || t) ≡ false → t ≡ false
or_rest true t e = cc
or_rest false t e = e

-- of looks without marks that set these lines
lines : (l : Looks) (stroke : Option ℕ) (fill : Option (Option ℕ)) (width : Option ℕ) → has_mark l ≡ false
    → l.stroke ≡ stroke → l.fill ≡ fill → l.width ≡ width
    → ◌≡◌ {A = Looks} (record {
      stroke = stroke;
      fill = fill;
      width = width;
      dash = None;
      heads = None;
      round = None;
      opacity = None;
      letters
          = None;
      align = None;
    }) l
lines l stroke fill width none s f w =
    let heads = or_rest (is_some l.dash) _ none in
    let round = or_rest (is_some l.heads) _ heads in
    let late = or_rest (is_some l.round) _ round in
    let letters = or_rest (is_some l.opacity) _ late in
    λ i. record {
      stroke = sym s i;
      fill = sym f i;
      width = sym w i;
      dash = none_by l.dash (or_first (is_some l.dash) _ none) i;
      heads = none_by l.heads (or_first (is_some l.heads) _ heads) i;
      round = none_by l.round (or_first (is_some l.round) _ round) i;
      opacity = none_by l.opacity (or_first (is_some l.opacity) _ late) i;
      letters = none_by l.letters (or_first (is_some l.letters) _ letters) i;
      align = none_by l.align (or_rest (is_some l.letters) _ letters) i;
    }

pub lone_stroke : (l : Looks) (c : ℕ) → has_mark l ≡ false → l.stroke ≡ Some c → l.fill ≡ None → l.width ≡ None
    → only_stroke c ≡ l
lone_stroke l c none s f w = lines l (Some c) None None none s f w

pub lone_fill : (l : Looks) (c : Option ℕ) → has_mark l ≡ false → l.stroke ≡ None → l.fill ≡ Some c → l.width ≡ None
    → only_fill c ≡ l
lone_fill l c none s f w = lines l None (Some c) None none s f w

pub lone_width : (l : Looks) (n : ℕ) → has_mark l ≡ false → l.stroke ≡ None → l.fill ≡ None → l.width ≡ Some n
    → only_width n ≡ l
lone_width l n none s f w = lines l None None (Some n) none s f w

pub ruleset lone = (lone_stroke, lone_fill, lone_width)

-- ---- old looks of the same parts are kept as they are

only_there : {A : Type 0} (x : Option A) (old : A) → is_some x ≡ true → Some (unwrap_or x old) ≡ x
only_there None old h = cc
only_there (Some a) old h = refl

not_there : {A : Type 0} (x : Option A) → (is_some x ≡ true → false ≡ true) → None ≡ x
not_there None h = refl
not_there (Some a) h = let e = h refl in cc

over_same : {A : Type 0} (x new : Option A) → (is_some x ≡ true → is_some new ≡ true)
    → (is_some new ≡ true → is_some x ≡ true) → put_over x new ≡ x
over_same None None h k = refl
over_same None (Some b) h k = let e = k refl in cc
over_same (Some a) None h k = let e = h refl in cc
over_same (Some a) (Some b) h k = refl

put_same : (w : LooksSwap) (l : Looks) → AreSetBy (new_looks w) l → AreSetBy l (new_looks w) → put_looks w l ≡ l
put_same (looks.Width new old) l h k = λ i. record {
  stroke = not_there l.stroke h.stroke i;
  fill = not_there l.fill h.fill i;
  width = only_there l.width old (k.width refl) i;
  dash = not_there l.dash h.dash i;
  heads = not_there l.heads h.heads i;
  round = not_there l.round h.round i;
  opacity = not_there l.opacity h.opacity i;
  letters = not_there l.letters h.letters i;
  align = not_there l.align h.align i;
}
put_same (looks.Stroke new old) l h k = λ i. record {
  stroke = only_there l.stroke old (k.stroke refl) i;
  fill = not_there l.fill h.fill i;
  width = not_there l.width h.width i;
  dash = not_there l.dash h.dash i;
  heads = not_there l.heads h.heads i;
  round = not_there l.round h.round i;
  opacity = not_there l.opacity h.opacity i;
  letters = not_there l.letters h.letters i;
  align = not_there l.align h.align i;
}
put_same (looks.Fill new old) l h k = λ i. record {
  stroke = not_there l.stroke h.stroke i;
  fill = only_there l.fill old (k.fill refl) i;
  width = not_there l.width h.width i;
  dash = not_there l.dash h.dash i;
  heads = not_there l.heads h.heads i;
  round = not_there l.round h.round i;
  opacity = not_there l.opacity h.opacity i;
  letters = not_there l.letters h.letters i;
  align = not_there l.align h.align i;
}
put_same (looks.Many pair) l h k =
    let new = pair.value.new in
    λ i. record {
      stroke = over_same l.stroke new.stroke h.stroke k.stroke i;
      fill = over_same l.fill new.fill h.fill k.fill i;
      width = over_same l.width new.width h.width k.width i;
      dash = over_same l.dash new.dash h.dash k.dash i;
      heads = over_same l.heads new.heads h.heads k.heads i;
      round = over_same l.round new.round h.round k.round i;
      opacity = over_same l.opacity new.opacity h.opacity k.opacity i;
      letters = over_same l.letters new.letters h.letters k.letters i;
      align = over_same l.align new.align h.align k.align i;
    }

-- a pair
abbrev New : Type 0
New = over.Content (List ℕ) Nothing Height

abbrev with_found : New → Content → Pair
with_found new found = record { new = new; old = found }

-- what it sets at that stamp
abbrev pair_sets : Stamp → New → Content
pair_sets stamp new =
    content_map (λ label. label) (λ looks. looks) (rank_at stamp) (pair_new (with_found new (content.ToFlag false)))

-- so is any content of the parts that are set
pair_same : (stamp : Stamp) (new : New) (found v : Content) → IsOver (pair_sets stamp new) v
    → pair_stored (with_found new found) v ≡ Some v
pair_same stamp (content.ToLooks none) found v h = elim none [ ]
pair_same stamp new found (content.ToLooks l) h = cc
pair_same stamp new found v h = cc

pub stored_same : (stamp : Stamp) (w : Swap) (v : Content) → IsOver (sets stamp w) v → IsOver v (sets stamp w)
    → stored_one w v ≡ Some v
stored_same stamp (swap.ToLooks w) (content.ToLooks l) h k = ap (λ m. Some (content.ToLooks m)) (put_same w l h k)
stored_same stamp (swap.Other pair) v h k = pair_same stamp pair.value.new pair.value.old v h
stored_same stamp w (content.ToLooks l) h k = cc
stored_same stamp w v h k = cc

-- ---- what is found in an object is of the parts that are set

instead_there : {A : Type 0} (set : Option A) (x : A) → is_some set ≡ true → is_some (instead set x) ≡ true
instead_there None x e = e
instead_there (Some y) x e = refl

instead_from : {A : Type 0} (set : Option A) (x : A) → is_some (instead set x) ≡ true → is_some set ≡ true
instead_from None x e = e
instead_from (Some y) x e = refl

taken_there : (l : Looks) (k : Look) → AreSetBy (taken l k) l
taken_there l k = record {
  stroke = instead_there l.stroke k.stroke;
  fill = instead_there l.fill k.fill;
  width = instead_there l.width k.width;
  dash = instead_there l.dash k.dash;
  heads = instead_there l.heads k.heads;
  round = instead_there l.round k.round;
  opacity = instead_there l.opacity k.opacity;
  letters = instead_there l.letters k.letters;
  align = instead_there l.align k.align;
}

taken_from : (l : Looks) (k : Look) → AreSetBy l (taken l k)
taken_from l k = record {
  stroke = instead_from l.stroke k.stroke;
  fill = instead_from l.fill k.fill;
  width = instead_from l.width k.width;
  dash = instead_from l.dash k.dash;
  heads = instead_from l.heads k.heads;
  round = instead_from l.round k.round;
  opacity = instead_from l.opacity k.opacity;
  letters = instead_from l.letters k.letters;
  align = instead_from l.align k.align;
}

found_from : (c : Content) (o : Object) → IsOver c (old c o)
found_from (content.ToLooks l) o = taken_from l o.look
found_from c o = cc

found_there : (c : Content) (o : Object) → IsOver (old c o) c
found_there (content.ToLooks l) o = taken_there l o.look
found_there c o = cc

-- so what an operation finds is kept as it is
pub stored_found : (stamp : Stamp) (w : Swap) (x : Option Object)
    → stored w (old_in (sets stamp w) x) ≡ old_in (sets stamp w) x
stored_found stamp w None = refl
stored_found stamp w (Some o) = by (fits (sets stamp w) o.kind)
  where
    by : (b : Bool) → stored w (cond b (Some (old (sets stamp w) o)) None) ≡ cond b (Some (old (sets stamp w) o)) None
    by true = stored_same stamp w (old (sets stamp w) o) (found_from (sets stamp w) o) (found_there (sets stamp w) o)
    by false = refl

-- ---- what a swap found is of its parts

over_there : {A : Type 0} (old new : Option A) → is_some new ≡ true → is_some (put_over old new) ≡ true
over_there old None e = e
over_there old (Some x) e = refl

over_from : {A : Type 0} (old new : Option A) → is_some (put_over old new) ≡ true → is_some new ≡ true
over_from old None e = e
over_from old (Some x) e = refl

within_there : {A : Type 0} (c old : Option A) → (is_some c ≡ true → is_some old ≡ true) → is_some c ≡ true
    → is_some (kept c old) ≡ true
within_there None old h e = e
within_there (Some x) old h e = h refl

within_from : {A : Type 0} (c old : Option A) → is_some (kept c old) ≡ true → is_some c ≡ true
within_from None old e = e
within_from (Some x) old e = refl

old_there : (w : LooksSwap) → AreSetBy (old_looks w) (new_looks w)
old_there (looks.Many pair) =
    let old = pair.value.old in
    let new = pair.value.new in
    record {
      stroke = over_there old.stroke new.stroke;
      fill = over_there old.fill new.fill;
      width = over_there old.width new.width;
      dash = over_there old.dash new.dash;
      heads = over_there old.heads new.heads;
      round = over_there old.round new.round;
      opacity = over_there old.opacity new.opacity;
      letters = over_there old.letters new.letters;
      align = over_there old.align new.align;
    }
old_there (looks.Width new old) = record {
  stroke = λ e. e;
  fill = λ e. e;
  width = λ e. e;
  dash = λ e. e;
  heads = λ e. e;
  round = λ e. e;
  opacity = λ e. e;
  letters = λ e. e;
  align = λ e. e;
}
old_there w = record {
  stroke = λ e. e;
  fill = λ e. e;
  width = λ e. e;
  dash = λ e. e;
  heads = λ e. e;
  round = λ e. e;
  opacity = λ e. e;
  letters = λ e. e;
  align = λ e. e;
}

old_from : (w : LooksSwap) → AreSetBy (new_looks w) (old_looks w)
old_from (looks.Many pair) =
    let old = pair.value.old in
    let new = pair.value.new in
    record {
      stroke = over_from old.stroke new.stroke;
      fill = over_from old.fill new.fill;
      width = over_from old.width new.width;
      dash = over_from old.dash new.dash;
      heads = over_from old.heads new.heads;
      round = over_from old.round new.round;
      opacity = over_from old.opacity new.opacity;
      letters = over_from old.letters new.letters;
      align = over_from old.align new.align;
    }
old_from (looks.Width new old) = record {
  stroke = λ e. e;
  fill = λ e. e;
  width = λ e. e;
  dash = λ e. e;
  heads = λ e. e;
  round = λ e. e;
  opacity = λ e. e;
  letters = λ e. e;
  align = λ e. e;
}
old_from w = record {
  stroke = λ e. e;
  fill = λ e. e;
  width = λ e. e;
  dash = λ e. e;
  heads = λ e. e;
  round = λ e. e;
  opacity = λ e. e;
  letters = λ e. e;
  align = λ e. e;
}

-- ---- passed on: d and what was found set the same parts, and c none but these

within_parts : (c d found : Looks) → AreSetBy d c → AreSetBy found d → AreSetBy (within c found) c
within_parts c d found h k = record {
  stroke = within_there c.stroke found.stroke (λ e. k.stroke (h.stroke e));
  fill = within_there c.fill found.fill (λ e. k.fill (h.fill e));
  width = within_there c.width found.width (λ e. k.width (h.width e));
  dash = within_there c.dash found.dash (λ e. k.dash (h.dash e));
  heads = within_there c.heads found.heads (λ e. k.heads (h.heads e));
  round = within_there c.round found.round (λ e. k.round (h.round e));
  opacity = within_there c.opacity found.opacity (λ e. k.opacity (h.opacity e));
  letters = within_there c.letters found.letters (λ e. k.letters (h.letters e));
  align = within_there c.align found.align (λ e. k.align (h.align e));
}

within_own : (c found : Looks) → AreSetBy c (within c found)
within_own c found = record {
  stroke = within_from c.stroke found.stroke;
  fill = within_from c.fill found.fill;
  width = within_from c.width found.width;
  dash = within_from c.dash found.dash;
  heads = within_from c.heads found.heads;
  round = within_from c.round found.round;
  opacity = within_from c.opacity found.opacity;
  letters = within_from c.letters found.letters;
  align = within_from c.align found.align;
}

laid_parts : (c d found : Looks) → AreSetBy found d → AreSetBy (laid c found) d
laid_parts c d found k = record {
  stroke = λ e. over_there c.stroke found.stroke (k.stroke e);
  fill = λ e. over_there c.fill found.fill (k.fill e);
  width = λ e. over_there c.width found.width (k.width e);
  dash = λ e. over_there c.dash found.dash (k.dash e);
  heads = λ e. over_there c.heads found.heads (k.heads e);
  round = λ e. over_there c.round found.round (k.round e);
  opacity = λ e. over_there c.opacity found.opacity (k.opacity e);
  letters = λ e. over_there c.letters found.letters (k.letters e);
  align = λ e. over_there c.align found.align (k.align e);
}

laid_own : (c d found : Looks) → AreSetBy d found → AreSetBy d (laid c found)
laid_own c d found k = record {
  stroke = λ e. k.stroke (over_from c.stroke found.stroke e);
  fill = λ e. k.fill (over_from c.fill found.fill e);
  width = λ e. k.width (over_from c.width found.width e);
  dash = λ e. k.dash (over_from c.dash found.dash e);
  heads = λ e. k.heads (over_from c.heads found.heads e);
  round = λ e. k.round (over_from c.round found.round e);
  opacity = λ e. k.opacity (over_from c.opacity found.opacity e);
  letters = λ e. k.letters (over_from c.letters found.letters e);
  align = λ e. k.align (over_from c.align found.align e);
}

pair_within : (t : Stamp) (new : New) (c found : Content) → IsOver (pair_sets t new) c
    → IsOver c (part_within c (pair_old (with_found new found)))
    × IsOver (part_within c (pair_old (with_found new found))) c
pair_within t (content.ToLooks none) c found h = elim none [ ]
pair_within t new (content.ToLooks l) found h = (cc, cc)
pair_within t new c (content.ToLooks l) h = (cc, cc)
pair_within t new c found h = (cc, cc)

within_alike : (t : Stamp) (later : Swap) (c : Content) → IsOver (sets t later) c
    → IsOver c (part_within c (old_of later)) × IsOver (part_within c (old_of later)) c
within_alike t (swap.ToLooks w) (content.ToLooks c) h
    = (within_own c (old_looks w), within_parts c (new_looks w) (old_looks w) h (old_there w))
within_alike t (swap.Other pair) c h = pair_within t pair.value.new c pair.value.old h
within_alike t later (content.ToLooks c) h = (cc, cc)
within_alike t later c h = (cc, cc)

pair_laid : (t : Stamp) (new : New) (c found : Content) → IsOver (pair_sets t new) c
    → IsOver (pair_sets t new) (laid_over c (pair_old (with_found new found)))
    × IsOver (laid_over c (pair_old (with_found new found))) (pair_sets t new)
pair_laid t (content.ToLooks none) c found h = elim none [ ]
pair_laid t new (content.ToLooks l) found h = (cc, cc)
pair_laid t new c found h = (cc, cc)

laid_alike : (t : Stamp) (later : Swap) (c : Content) → IsOver (sets t later) c
    → IsOver (sets t later) (laid_over c (old_of later)) × IsOver (laid_over c (old_of later)) (sets t later)
laid_alike t (swap.ToLooks w) (content.ToLooks c) h
    = (laid_own c (new_looks w) (old_looks w) (old_from w), laid_parts c (new_looks w) (old_looks w) (old_there w))
laid_alike t (swap.Other pair) c h = pair_laid t pair.value.new c pair.value.old h
laid_alike t later (content.ToLooks c) h = (cc, cc)
laid_alike t later c h = (cc, cc)

-- ---- the parts at a stamp are those that the operation says

parts_map : (stamp : Stamp) (c : Done)
    → parts_of (content_map (λ label. label) (λ looks. looks) (rank_at stamp) c) ≡ parts_of c
parts_map stamp (content.ToPlace x y) = refl
parts_map stamp c = refl

pub part_sets : (stamp : Stamp) (w : Swap) → parts_of (sets stamp w) ≡ parts_of (of_swap w)
part_sets stamp w = parts_map stamp (of_swap w)

abbrev sets_said : Stamp → over.Content (List ℕ) Nothing Height → Content
sets_said stamp c =
    content_map (λ label. label) (λ looks. looks) (rank_at stamp)
    (content_map (λ label. label) (λ looks. elim looks [ ]) (λ height. height) c)

lone_said : (stamp : Stamp) (c : over.Content (List ℕ) Nothing Height)
    → parts_of (sets_said stamp c) ≡ first_part (parts_of (sets_said stamp c)) ∷ []
lone_said stamp (content.ToLooks none) = elim none [ ]
lone_said stamp c = refl

-- what sets no look sets one part
pub lone_part : (stamp : Stamp) (w : Swap) → ((l : LooksSwap) → w ≡ swap.ToLooks l → ⊥)
    → parts_of (sets stamp w) ≡ first_part (parts_of (sets stamp w)) ∷ []
lone_part stamp (swap.ToLooks l) not_looks = absurd (not_looks l refl)
lone_part stamp (swap.Other pair) not_looks = lone_said stamp pair.value.new
lone_part stamp w not_looks = refl

over_parts : (s : Stamp) (earlier later : Swap)
    → have_parts (parts_of (of_swap later)) (parts_of (of_swap earlier)) ≡ true → IsOver (sets s later) (sets s earlier)
over_parts s earlier later h =
    is_over (sets s later) (sets s earlier)
    ((λ i. have_parts (part_sets s later i) (part_sets s earlier i)) ∙ h)

-- what is kept as something was found as that
found_some : (r : Bool) (w : Swap) (v : Content) → found_in r w ≡ Some v → old_of w ≡ v
found_some false w v e = cc
found_some true w v e = cc

-- the earlier one keeps what it is given of what the later one found
pub first_passed : (s : Stamp) (earlier later now : Swap) (r : Bool) (v : Content)
    → have_parts (parts_of (of_swap later)) (parts_of (of_swap earlier)) ≡ true
    → v ≡ part_within (sets s earlier) (old_of later) → found_in r now ≡ stored_one earlier v
    → old_of now ≡ part_within (sets s earlier) (old_of later)
first_passed s earlier later now r v h is keeps =
    let c = sets s earlier in
    let both = within_alike s later c (over_parts s earlier later h) in
    found_some r now (part_within c (old_of later))
    (keeps ∙ ap (stored_one earlier) is ∙ stored_same s earlier (part_within c (old_of later)) both.0 both.1)

-- and the later one that over which it was put. Its old value was moved out before
pub second_passed : (s : Stamp) (earlier later moved now : Swap) (r : Bool) (v : Content)
    → have_parts (parts_of (of_swap later)) (parts_of (of_swap earlier)) ≡ true
    → of_swap moved ≡ of_swap later → v ≡ laid_over (sets s earlier) (old_of later)
    → found_in r now ≡ stored_one moved v
    → old_of now ≡ laid_over (sets s earlier) (old_of later)
second_passed s earlier later moved now r v h same is keeps =
    let c = sets s earlier in
    let d = laid_over c (old_of later) in
    let sets_same : sets s moved ≡ sets s later = ap (content_map (λ label. label) (λ looks. looks) (rank_at s)) same in
    let both = laid_alike s later c (over_parts s earlier later h) in
    let over : IsOver (sets s moved) d = subst (λ (k : Content). IsOver k d) (sym sets_same) both.0 in
    let under : IsOver d (sets s moved) = subst (λ (k : Content). IsOver d k) (sym sets_same) both.1 in
    found_some r now d (keeps ∙ ap (stored_one moved) is ∙ stored_same s moved d over under)
