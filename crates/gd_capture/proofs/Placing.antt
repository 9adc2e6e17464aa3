-- The objects of a board, by their ids.
use Rattle.std.proofs.Common.{◌≡◌, true, false, cond, List, [], ◌∷◌, map, Option, Some, None, refl, sym, ap, ◌∙◌, subst}
use Rattle.std.proofs.Common.{T}
use Rattle.std.specs.FinMap as map_of
use Rattle.std.specs.FinMap.Entries.{below_all}
use Rattle.std.specs.List.{cons_option, filter_map}
use Rattle.std.specs.Prelude.{option_map}
use Rattle.gd_base.proofs.StampLemmas.{is_same-refl, is_same-true}
use Rattle.gd_base.specs.Stamps.{Stamp, is_same, stamp_cmp}
use Rattle.gd_capture.specs.Placing.{placed_in}
use Rattle.gd_drawing.proofs.Stacking.{not_found, t_first, t_second}
use Rattle.gd_model.specs.Board.{Board}
use Rattle.gd_base.specs.Whole.{Object}
use Rattle.gd_snapshots.specs.Snapshots.{Placed}

-- what a sorted list finds behind its first entry, it finds
found_later : (id : Stamp) (o : Object) (e : Placed) (es : List Placed) → T (below_all stamp_cmp e.0 es)
    → map_of.find stamp_cmp id es ≡ Some o → map_of.find stamp_cmp id (e ∷ es) ≡ Some o
found_later id o e es h f =
    elim (is_same id e.0) as (λ t. is_same id e.0 ≡ t → cond t (Some e.1) (map_of.find stamp_cmp id es) ≡ Some o) [
      | true ↦ λ is. let none : map_of.find stamp_cmp id es
          ≡ None = not_found stamp_cmp id es
          (subst (λ (i : Stamp). T (below_all stamp_cmp i es)) (sym (is_same-true id e.0 is)) h) in cc
      | false ↦ λ is. f
    ] refl

entries_in : (b : Board) (es : List Placed) → T (map_of.is_sorted stamp_cmp es)
    → ((id : Stamp) (o : Object) → map_of.find stamp_cmp id es ≡ Some o → map_of.get b id ≡ Some o)
    → filter_map (placed_in b) (map (λ e. e.0) es) ≡ es
entries_in b [] h f = refl
entries_in b (e ∷ es) h f =
    let here : map_of.get b e.0
    ≡ Some e.1 = f e.0 e.1 (ap (λ t. cond t (Some e.1) (map_of.find stamp_cmp e.0 es)) (is_same-refl e.0)) in
    let rest = entries_in b es (t_second _ _ h) (λ id o g. f id o (found_later id o e es (t_first _ _ h) g)) in
    ap (λ (y : Option Object). cons_option (option_map (λ o. (e.0, o)) y)
    (filter_map (placed_in b) (map (λ x. x.0) es))) here ∙ ap (λ (l : List Placed). e ∷ l) rest

-- read by the ids of all objects, these are the board's entries
pub placed_by_ids : (b : Board) → filter_map (placed_in b) (map_of.keys b) ≡ map_of.entries b
placed_by_ids b = entries_in b (map_of.entries b) (map_of.entries_sorted b) (λ id o f. map_of.get-entries b id ∙ f)
