-- What takes an operation back leaves the board as it was.
use Rattle.std.proofs.Common.{◌≡◌, true, cond, [], ◌∷◌, Option, None, Some, refl, sym, ap, ◌∙◌}
use Rattle.std.specs.Prelude.{unwrap_or, is_some, option_map, IfSome}
use Rattle.std.proofs.lemmas.Bool.{cond_both}
use Rattle.std.specs.FinMap as map_of
use Rattle.gd_base.proofs.StampLemmas.{is_same-refl}
use Rattle.gd_base.specs.Stamps.{Stamp}
use Rattle.gd_base.specs.declared.content.Content.TheVariants.{ToPlace}
use Rattle.gd_base.specs.Whole.{Object}
use Rattle.gd_drawing.proofs.Inverse.{inverse_by}
use Rattle.gd_events.specs.Ops.{Op}
use Rattle.gd_model.specs.Backs.{back, op_of}
use Rattle.gd_model.specs.Board.{Board, board_with, apply}
use Rattle.gd_model.specs.Contents.{Content}
use Rattle.gd_model.specs.Forms.{form}
use Rattle.gd_model.specs.Objects.{own_ties}
use Rattle.gd_model.specs.Undoing.{Lookup, Before, old_in, old_ties, before_by, undoes, undone_by}
use Rattle.gd_model.specs.declared.form.Form.{Form}
use Rattle.gd_model.specs.declared.form.Form.TheVariants.{Sets, Puts, Takes}

-- ---- an operation and its back

pub form_of_op : (t : Stamp) (f : Form) → form t (op_of f) ≡ f
form_of_op t (Sets id (ToPlace x y)) = refl
form_of_op t (Sets id c) = refl
form_of_op t (Puts id o ties) = refl
form_of_op t (Takes id []) = refl
form_of_op t (Takes id (tie ∷ ties)) = refl

-- a before-value may be one of its form
before_undoes : (f : Form) (g : Lookup) → IfSome (before_by f g) (λ r. undoes r f ≡ true)
before_undoes (Sets id c) g = by (old_in c (g id))
  where
    by : (x : Option Content) → IfSome (option_map (Sets id) x) (λ r. undoes r (Sets id c) ≡ true)
    by None = tt
    by (Some d) = is_same-refl id
before_undoes (Puts id o ts) g =
    cond_both (is_some (g id)) None (Some (Takes id (old_ties (own_ties o.kind ts) g)))
    (λ v. IfSome v (λ r. undoes r (Puts id o ts) ≡ true)) (λ there. tt) (λ absent. is_same-refl id)
before_undoes (Takes id ts) g = by (g id)
  where
    by : (x : Option Object)
        → IfSome (option_map (λ o. Puts id o (old_ties (own_ties o.kind ts) g)) x) (λ r. undoes r (Takes id ts) ≡ true)
    by None = tt
    by (Some o) = is_same-refl id

taken_back : (f : Form) (b : Board) (v : Before) → undone_by f v (board_with f b) ≡ b
    → IfSome v (λ g. undoes g f ≡ true) → board_with (unwrap_or v f) (board_with f b) ≡ b
taken_back f b None e k = ap (board_with f) e ∙ e
taken_back f b (Some r) e k = ap (λ t. cond t (board_with r (board_with f b)) (board_with f b)) (sym k) ∙ e

pub no_trace : (s t : Stamp) (op : Op) (b : Board) → apply t (back s op b) (apply s op b) ≡ b
unfolding apply back
no_trace s t op b =
    let f = form s op in
    let v = before_by f (map_of.get b) in
    ap (λ g. board_with g (board_with f b)) (form_of_op t (unwrap_or v f))
    ∙ taken_back f b v (inverse_by f b) (before_undoes f (map_of.get b))

-- and so does the back of the back
pub no_trace_again : (s t u : Stamp) (op : Op) (b : Board)
    → (let undo = back s op b in
    apply u (back t undo (apply s op b)) (apply t undo (apply s op b)) ≡ apply s op b)
no_trace_again s t u op b = no_trace t u (back s op b) (apply s op b)
