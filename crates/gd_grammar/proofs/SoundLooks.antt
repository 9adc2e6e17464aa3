-- Looks in their ranges, said part by part, as reading meets the parts.
use Rattle.std.proofs.Common.{◌≡◌, ℕ, Bool, true, false, Option, Some, None, refl, sym, subst}
use Rattle.std.specs.Prelude.{◌&&◌, ◌||◌, is_none, is_some, unwrap_or}
use Rattle.std.proofs.lemmas.Bool.{and_parts, and_from, or_parts}
use Rattle.gd_base.specs.Looks.{no_looks, only_stroke, only_fill, only_width, are_marks, is_look, has_late_mark}
use Rattle.gd_base.specs.Looks.{has_mark, has_look, are_numbers, are_looks}
use Rattle.gd_base.specs.Ranges.{is_colour, is_fill, is_letters, is_opacity, is_round, is_width}
use Rattle.gd_base.specs.declared.look.Look.{Look}
use Rattle.gd_base.specs.declared.look.Looks.{Looks}
use Rattle.gd_grammar.specs.LookBytes.{lone, is_style}

-- the numbers of a look in their ranges
pub record InRange (stroke : ℕ) (fill : Option ℕ) (width : ℕ) (round : Option ℕ) (opacity : ℕ) (letters : Option ℕ) :
    Type 0 where
  pub stroke_in : is_colour stroke ≡ true
  pub fill_in : is_fill fill ≡ true
  pub width_in : is_width width ≡ true
  pub round_in : is_round round ≡ true
  pub opacity_in : is_opacity opacity ≡ true
  pub letters_in : is_letters letters ≡ true

-- those of a whole look
abbrev pub IsLooked : Look → Type 0
IsLooked l = InRange l.stroke l.fill l.width l.round l.opacity l.letters

-- those that are set
abbrev pub AreSet : Looks → Type 0
AreSet l =
    InRange (unwrap_or l.stroke 0) (unwrap_or l.fill None) (unwrap_or l.width 1) (unwrap_or l.round None)
    (unwrap_or l.opacity 1)
    (unwrap_or l.letters None)

module _ (stroke : ℕ) (fill : Option ℕ) (width : ℕ) (round : Option ℕ) (opacity : ℕ) (letters : Option ℕ) where
  -- the tests of all of them
  abbrev all_in : Bool
  all_in = is_colour stroke && (is_fill fill && (is_width width && are_marks round opacity letters))

  in-parts : all_in ≡ true → InRange stroke fill width round opacity letters
  in-parts h =
      let a = and_parts (is_colour stroke) (is_fill fill && (is_width width && are_marks round opacity letters)) h in
      let b = and_parts (is_fill fill) (is_width width && are_marks round opacity letters) a.1 in
      let c = and_parts (is_width width) (are_marks round opacity letters) b.1 in
      let d = and_parts (is_round round) (is_opacity opacity && is_letters letters) c.1 in
      let e = and_parts (is_opacity opacity) (is_letters letters) d.1 in
      record { stroke_in = a.0; fill_in = b.0; width_in = c.0; round_in = d.0; opacity_in = e.0; letters_in = e.1 }

  parts-in : InRange stroke fill width round opacity letters → all_in ≡ true
  parts-in s =
      and_from _ _ s.stroke_in (and_from _ _ s.fill_in (and_from _ _ s.width_in
      (and_from _ _ s.round_in (and_from _ _ s.opacity_in s.letters_in))))

pub look-parts : (l : Look) → is_look l ≡ true → IsLooked l
look-parts l h = in-parts l.stroke l.fill l.width l.round l.opacity l.letters h

pub parts-look : (l : Look) → IsLooked l → is_look l ≡ true
parts-look l s = parts-in l.stroke l.fill l.width l.round l.opacity l.letters s

pub looks-parts : (l : Looks) → are_looks l ≡ true → (has_look l ≡ true) × AreSet l
looks-parts l h =
    let p = and_parts (has_look l) (are_numbers l) h in
    (p.0, in-parts _ _ _ _ _ _ p.1)

pub parts-looks : (l : Looks) → has_look l ≡ true → AreSet l → are_looks l ≡ true
parts-looks l has s = and_from _ _ has (parts-in _ _ _ _ _ _ s)

-- ---- a lone part

none-of : {A : Type 0} (o : Option A) → is_some o ≡ false → o ≡ None
none-of None h = refl
none-of (Some a) h = absurd cc

-- none but a stroke, a fill or a width is set
record NoMark (l : Looks) : Type 0 where
  dash : l.dash ≡ None
  heads : l.heads ≡ None
  round : l.round ≡ None
  opacity : l.opacity ≡ None
  letters : l.letters ≡ None
  align : l.align ≡ None

no-mark : (l : Looks) → has_mark l ≡ false → NoMark l
no-mark l h =
    let dash = or_parts (is_some l.dash) (is_some l.heads || (is_some l.round || has_late_mark l)) h in
    let heads = or_parts (is_some l.heads) (is_some l.round || has_late_mark l) dash.1 in
    let round = or_parts (is_some l.round) (has_late_mark l) heads.1 in
    let opacity = or_parts (is_some l.opacity) (is_some l.letters || is_some l.align) round.1 in
    let letters = or_parts (is_some l.letters) (is_some l.align) opacity.1 in
    record {
      dash = none-of l.dash dash.0;
      heads = none-of l.heads heads.0;
      round = none-of l.round round.0;
      opacity = none-of l.opacity opacity.0;
      letters = none-of l.letters letters.0;
      align = none-of l.align letters.1;
    }

-- looks of these parts alone
abbrev few_looks : Option ℕ → Option (Option ℕ) → Option ℕ → Looks
few_looks stroke fill width = record no_looks { stroke = stroke; fill = fill; width = width }

few-are : (l : Looks) → NoMark l → l ≡ few_looks l.stroke l.fill l.width
few-are l n = λ i. record {
  stroke = l.stroke;
  fill = l.fill;
  width = l.width;
  dash = n.dash i;
  heads = n.heads i;
  round = n.round i;
  opacity = n.opacity i;
  letters = n.letters i;
  align = n.align i;
}

-- what holds of a lone stroke, a lone fill, a lone width and of others holds of all looks
pub by_lone : (P : Looks → Type 0) → ((stroke : ℕ) → P (only_stroke stroke)) → ((fill : Option ℕ) → P (only_fill fill))
    → ((width : ℕ) → P (only_width width)) → ((l : Looks) → lone l ≡ None → P l) → (l : Looks) → P l
by_lone P a_stroke a_fill a_width others l = by_mark (has_mark l) refl
  where
    by_few : (stroke : Option ℕ) (fill : Option (Option ℕ)) (width : Option ℕ) → P (few_looks stroke fill width)
    by_few (Some stroke) None None = a_stroke stroke
    by_few None (Some fill) None = a_fill fill
    by_few None None (Some width) = a_width width
    by_few None None None = others (few_looks None None None) refl
    by_few (Some stroke) (Some fill) width = others (few_looks (Some stroke) (Some fill) width) refl
    by_few (Some stroke) None (Some width) = others (few_looks (Some stroke) None (Some width)) refl
    by_few None (Some fill) (Some width) = others (few_looks None (Some fill) (Some width)) refl

    by_mark : (b : Bool) → has_mark l ≡ b → P l
    by_mark true e = others l (rw e refl)
    by_mark false e = subst P (sym (few-are l (no-mark l e))) (by_few l.stroke l.fill l.width)

-- what is a style has no lone part, and what has none is a style where a part is set
pub style-parts : (l : Looks) → is_style l ≡ true → (has_look l ≡ true) × (lone l ≡ None)
style-parts l h =
    let p = and_parts (has_look l) (is_none (lone l)) h in
    (p.0, no-lone (lone l) p.1)
  where
    no-lone : {A : Type 0} (o : Option A) → is_none o ≡ true → o ≡ None
    no-lone None e = refl
    no-lone (Some a) e = absurd cc

pub parts-style : (l : Looks) → has_look l ≡ true → lone l ≡ None → is_style l ≡ true
parts-style l has none = and_from _ _ has (rw none refl)
