-- Looks of which nothing but a stroke, a fill or a width is set.
use Rattle.std.proofs.Common.{◌≡◌, ℕ, false, ◌∙◌, refl, sym}
use Rattle.std.specs.Prelude.{Option, None, Some, is_some}
use Rattle.std.proofs.lemmas.Bool.{or_parts}
use Rattle.gd_base.specs.Looks.{has_late_mark, has_mark, no_looks, only_fill, only_stroke, only_width}
use Rattle.gd_base.specs.declared.look.Looks.{Looks}

pub none_from : {A : Type 0} (o : Option A) → is_some o ≡ false → o ≡ None
none_from None h = refl
none_from (Some x) h = cc

module _ (l : Looks) (h : has_mark l ≡ false) where
  -- only these three may be set
  pub unmarked : l ≡ record no_looks { stroke = l.stroke; fill = l.fill; width = l.width }
  unmarked =
      let dash = or_parts (is_some l.dash) _ h in
      let heads = or_parts (is_some l.heads) _ dash.1 in
      let round = or_parts (is_some l.round) (has_late_mark l) heads.1 in
      let opacity = or_parts (is_some l.opacity) _ round.1 in
      let letters = or_parts (is_some l.letters) _ opacity.1 in
      λ i. record {
        stroke = l.stroke;
        fill = l.fill;
        width = l.width;
        dash = (none_from l.dash dash.0) i;
        heads = (none_from l.heads heads.0) i;
        round = (none_from l.round round.0) i;
        opacity = (none_from l.opacity opacity.0) i;
        letters = (none_from l.letters letters.0) i;
        align = (none_from l.align letters.1) i;
      }

  pub lone_stroke : (stroke : ℕ) → l.stroke ≡ Some stroke → l.fill ≡ None → l.width ≡ None → only_stroke stroke ≡ l
  lone_stroke stroke a b c =
      let part : only_stroke stroke ≡ record no_looks { stroke = l.stroke; fill = l.fill; width = l.width } =
      λ i. record no_looks { stroke = (sym a) i; fill = (sym b) i; width = (sym c) i } in
      part ∙ sym unmarked

  pub lone_fill : (fill : Option ℕ) → l.stroke ≡ None → l.fill ≡ Some fill → l.width ≡ None → only_fill fill ≡ l
  lone_fill fill a b c =
      let part : only_fill fill ≡ record no_looks { stroke = l.stroke; fill = l.fill; width = l.width } =
      λ i. record no_looks { stroke = (sym a) i; fill = (sym b) i; width = (sym c) i } in
      part ∙ sym unmarked

  pub lone_width : (width : ℕ) → l.stroke ≡ None → l.fill ≡ None → l.width ≡ Some width → only_width width ≡ l
  lone_width width a b c =
      let part : only_width width ≡ record no_looks { stroke = l.stroke; fill = l.fill; width = l.width } =
      λ i. record no_looks { stroke = (sym a) i; fill = (sym b) i; width = (sym c) i } in
      part ∙ sym unmarked
