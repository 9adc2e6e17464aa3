-- The levels gathered from the slots are those of the stack.
use Rattle.std.proofs.Common.{◌≡◌, ℕ, zero, suc, ◌+◌, add-one, ◌<◌, true, false, cond, ◌&&◌, List, [], ◌∷◌, map}
use Rattle.std.proofs.Common.{length, drop, Option, None, Some, refl, sym, ap, ◌∙◌, subst, T, arith, Ordering}
use Rattle.std.specs.Prelude.{◌++◌, option_map, option_to_list}
use Rattle.std.specs.Ordering.{eq_by_cmp}
use Rattle.std.specs.List.{IsDistinct, AllByRecursion as Every, filter_map, cons_option}
use Rattle.std.specs.FinMap as map_of
use Rattle.std.specs.List.Sorted.{IsPermutation, IsSorted}
use Rattle.std.specs.FinMap.Entries.{below_all}
use Rattle.std.proofs.Math.Seq.{append_snoc, drop-length}
use Rattle.std.proofs.lemmas.List.Sorted.{IsPermutation-refl, IsPermutation-trans, IsPermutation-cons}
use Rattle.gd_base.specs.Stamps.{stamp_cmp, is_same}
use Rattle.gd_base.proofs.StampLemmas.{is_same-true, is_same-refl}
use Rattle.gd_base.specs.StampTotal.{stamp_cmp-total, stamp_cmp-IsAntisymmetric}
use Rattle.gd_base.specs.Stamps.{Stamp}
use Rattle.gd_base.specs.Whole.{Object}
use Rattle.gd_model.specs.Board.{Board, levels, stack}
use Rattle.gd_drawing.proofs.Stacking.{level_cmp-total, level_cmp-IsAntisymmetric, level_test, at_rank, level_step}
use Rattle.gd_drawing.proofs.Stacking.{not_found, get-stack, t_first, t_second}
use Rattle.gd_canvas.specs.Slots.{Slots}
use Rattle.gd_slots.specs.Slots.{board_of, ids, value_of, value_at}
use Rattle.gd_slots.proofs.Lookups.{put_at-kept}
use Rattle.gd_slots.proofs.SlotLemmas.{get-step, get-none}
use Rattle.gd_model.specs.Board.{without_levels, listed}
use Rattle.gd_model.specs.Drawing.{Drawing}
use Rattle.gd_model.specs.Shown.{shown, shown_items}
use Rattle.gd_base.specs.declared.item.Item.{Item}
use Rattle.gd_drawing.proofs.Entries.{level_from_eq}
use Rattle.gd_drawing.proofs.Listed.{some_ranked}
use Rattle.std.proofs.lemmas.List.{append-nil, nil_from_length}
use Rattle.gd_base.specs.declared.rank.Level.{Level}
use Rattle.gd_base.specs.Ranks.{level, level_cmp, is_same_rank}
use Rattle.gd_drawing.proofs.RankLemmas.{is_same_rank-refl}
use Rattle.gd_view.specs.Levels.{level_of, item_of}
use Rattle.gd_view.proofs.SortLemmas.{keys_more, sorted_keys}

-- the item of the object with that level, where it is shown
abbrev pub item_at_level : Board → Level → Option Item
item_at_level b q = item_of (listed b) q.id (map_of.get b q.id)

-- ---- what the gathered levels return

-- an id without a slot has no object
pub apart_none : (id : Stamp) (es : Slots) → Every (λ y. is_same id y ≡ false) (ids es)
    → map_of.get (board_of es) id ≡ None
apart_none id [] h = get-none id
apart_none id (e ∷ es) h = get-step e es id ∙ ap (λ t. cond t e.1 (map_of.get (board_of es) id)) h.0
    ∙ apart_none id es h.1

-- one object more on the stack
stack-insert : (b : Board) (id : Stamp) (o : Object) → map_of.get b id ≡ None
    → stack (map_of.insert b id o) ≡ map_of.insert (stack b) (level o.rank id) o
stack-insert b id o absent =
    map_of.same_map level_cmp-total level_cmp-IsAntisymmetric _ _ (λ q.
    get-stack (map_of.insert b id o) q.rank q.id
    ∙ ap (at_rank q.rank) (map_of.get-insert stamp_cmp-total b id o q.id)
    ∙ sym (level_step (is_same_rank q.rank o.rank) (is_same q.id id) o q.rank (map_of.get b q.id) refl
    (λ e. ap (map_of.get b) (is_same-true q.id id e) ∙ absent))
    ∙ (λ i. cond (sym (level_test q.rank q.id o.rank id) i) (Some o) (sym (get-stack b q.rank q.id) i))
    ∙ sym (map_of.get-insert level_cmp-total (stack b) (level o.rank id) o q))

-- it has that object's level besides
stack_more : (b : Board) (id : Stamp) (o : Object) → map_of.get b id ≡ None
    → IsPermutation (level o.rank id ∷ map_of.keys (stack b)) (map_of.keys (stack (map_of.insert b id o)))
stack_more b id o absent = subst (λ s. IsPermutation (level o.rank id ∷ map_of.keys (stack b)) (map_of.keys s))
    (sym (stack-insert b id o absent))
    (keys_more level_cmp-total (stack b) (level o.rank id) o
    (get-stack b o.rank id ∙ ap (at_rank o.rank) absent))

-- ---- what the slots hold, gathered from the first to the last

module _ {K : Type 0} where
  -- what is put last, where there is something
  put_option : (x : Option K) (ks rest : List K) → (ks ++ option_to_list x) ++ rest ≡ ks ++ cons_option x rest
  put_option None ks rest = ap (λ l. l ++ rest) (append-nil ks)
  put_option (Some y) ks rest = append_snoc ks y rest

module _ {K : Type 0} (f : Stamp × Object → K) where
  -- what f makes of the slots' objects
  abbrev pub held : Slots → List K
  held es = filter_map (λ e. option_map f (value_of (Some e))) es

  read_next : (es : Slots) (k : ℕ) (ks next all : List K) → k < length es → ks ++ held (drop k es) ≡ all
      → next ≡ ks ++ option_to_list (option_map f (value_at es k)) → next ++ held (drop (suc k) es) ≡ all
  read_next [] k ks next all below so_far is = absurd (omega arith)
  read_next (e ∷ es) zero ks next all below so_far is
      = ap (λ l. l ++ held es) is ∙ put_option (option_map f (value_of (Some e))) ks (held es) ∙ so_far
  read_next (e ∷ es) (suc k) ks next all below so_far is = read_next es k ks next all (omega arith) so_far is

  -- the slot at the place k is read
  pub held_next : (es : Slots) (k : ℕ) (ks next all : List K) → k < length es → ks ++ held (drop k es) ≡ all
      → next ≡ ks ++ option_to_list (option_map f (value_at es k)) → next ++ held (drop (k + 1) es) ≡ all
  held_next es k ks next all below so_far is = ap (λ n. next ++ held (drop n es)) (add-one k)
      ∙ read_next es k ks next all below so_far is

  -- all slots are read
  held_all : (es : Slots) (k : ℕ) (ks : List K) → k ≡ length es → ks ++ held (drop k es) ≡ held es → ks ≡ held es
  held_all es k ks end so_far = sym (append-nil ks)
      ∙ ap (λ l. ks ++ held l) (sym (ap (λ n. drop n es) end ∙ drop-length es)) ∙ so_far

-- ---- they are the keys of the board

module _ {K : Type 0} (f : Stamp × Object → K) (keys : Board → List K) (none : keys map_of.empty ≡ [])
    (more : (b : Board) (id : Stamp) (o : Object) → map_of.get b id ≡ None
    → IsPermutation (f (id, o) ∷ keys b) (keys (map_of.insert b id o))) where
  -- one slot more
  one_more : (e : Stamp × Option Object) (es : Slots) → Every (λ y. is_same e.0 y ≡ false) (ids es)
      → IsPermutation (held f es) (keys (board_of es)) → IsPermutation (held f (e ∷ es)) (keys (board_of (e ∷ es)))
  unfolding board_of
  one_more (id, None) es apart are = subst (IsPermutation (held f es))
      (ap keys (sym (put_at-kept (board_of es) id None (apart_none id es apart)))) are
  one_more (id, Some o) es apart are = IsPermutation-trans _ _ _ (IsPermutation-cons (f (id, o)) _ _ are)
      (more (board_of es) id o (apart_none id es apart))

  held_keys : (es : Slots) → IsDistinct is_same (ids es) → IsPermutation (held f es) (keys (board_of es))
  unfolding IsDistinct board_of
  held_keys [] d = subst (IsPermutation []) (sym none) (IsPermutation-refl [])
  held_keys (e ∷ es) d = one_more e es d.0 (held_keys es d.1)

-- no objects have no ids, and no levels
no_entries : {K : Type 0} (X : Type 0) (R : K → K → Ordering) → map_of.entries (map_of.empty {X = X} {R = R}) ≡ []
no_entries X R = nil_from_length _ (sym (map_of.len-entries (map_of.empty {X = X} {R = R})) ∙ map_of.len-empty R X)

no_ids : map_of.keys (map_of.empty {X = Object} {R = stamp_cmp}) ≡ []
no_ids = ap (map (λ e. e.0)) (no_entries Object stamp_cmp)

no_levels : map_of.keys (stack map_of.empty) ≡ []
unfolding stack
no_levels = ap (λ es. map_of.keys (map_of.from_entries {R = level_cmp} (levels es))) (no_entries Object stamp_cmp)
    ∙ ap (map (λ e. e.0)) (no_entries Object level_cmp)

-- the ids that are gathered, and sorted
pub ids_sorted : (es : Slots) (k : ℕ) (ks sorted : List Stamp) → IsDistinct is_same (ids es) → k ≡ length es
    → ks ++ held (λ e. e.0) (drop k es) ≡ held (λ e. e.0) es → IsPermutation ks sorted → IsSorted stamp_cmp sorted
    → sorted ≡ map_of.keys (board_of es)
ids_sorted es k ks sorted apart end so_far =
    sorted_keys stamp_cmp-total stamp_cmp-IsAntisymmetric (board_of es) ks sorted
    (subst (λ l. IsPermutation l (map_of.keys (board_of es))) (sym (held_all (λ e. e.0) es k ks end so_far))
    (held_keys (λ e. e.0) (λ (b : Board). map_of.keys b) no_ids (keys_more stamp_cmp-total) es apart))

-- the levels
pub levels_sorted : (es : Slots) (k : ℕ) (ks sorted : List Level) → IsDistinct is_same (ids es) → k ≡ length es
    → ks ++ held level_of (drop k es) ≡ held level_of es → IsPermutation ks sorted → IsSorted level_cmp sorted
    → sorted ≡ map_of.keys (stack (board_of es))
levels_sorted es k ks sorted apart end so_far =
    sorted_keys level_cmp-total level_cmp-IsAntisymmetric (stack (board_of es)) ks sorted
    (subst (λ l. IsPermutation l (map_of.keys (stack (board_of es)))) (sym (held_all level_of es k ks end so_far))
    (held_keys level_of (λ (b : Board). map_of.keys (stack b)) no_levels stack_more es apart))

-- ---- the items, by level

-- a level is itself
at_itself : (q : Level) → eq_by_cmp level_cmp q q ≡ true
at_itself q = level_test q.rank q.id q.rank q.id ∙ (λ i. is_same_rank-refl q.rank i && is_same-refl q.id i)

-- what a sorted list of levels finds behind its first entry, it finds
found_later : (q : Level) (v : Object) (e : Level × Object) (es : List (Level × Object))
    → T (below_all level_cmp e.0 es) → map_of.find level_cmp q es ≡ Some v
    → map_of.find level_cmp q (e ∷ es) ≡ Some v
found_later q v e es h f =
    elim (eq_by_cmp level_cmp q e.0) as
    (λ t. eq_by_cmp level_cmp q e.0 ≡ t → cond t (Some e.1) (map_of.find level_cmp q es) ≡ Some v) [
      | true ↦ λ is. let none : map_of.find level_cmp q es
          ≡ None = not_found level_cmp q es (subst (λ p. T (below_all level_cmp p es)) (sym (level_from_eq q e.0 is)) h)
          in cc
      | false ↦ λ is. f
    ] refl

-- the items of a sorted list of levels
items_in : (b : Board) (d : Drawing) (es : List (Level × Object)) → T (map_of.is_sorted level_cmp es)
    → ((q : Level) (v : Object) → map_of.find level_cmp q es ≡ Some v → map_of.get b q.id ≡ Some v)
    → filter_map (shown d) (without_levels es)
    ≡ filter_map (λ q. item_of d q.id (map_of.get b q.id)) (map (λ e. e.0) es)
items_in b d [] h f = refl
items_in b d (e ∷ es) h f =
    let here : map_of.get b e.0.id
    ≡ Some e.1 = f e.0 e.1 (ap (λ t. cond t (Some e.1) (map_of.find level_cmp e.0 es)) (at_itself e.0)) in
    let rest = items_in b d es (t_second _ _ h) (λ q v g. f q v (found_later q v e es (t_first _ _ h) g)) in
    ap (λ y. cons_option (item_of d e.0.id y) (filter_map (shown d) (without_levels es))) (sym here)
    ∙ ap (cons_option (item_of d e.0.id (map_of.get b e.0.id))) rest

-- the shown objects in list order, by the levels
pub shown_by_levels : (b : Board) → filter_map (item_at_level b) (map_of.keys (stack b)) ≡ shown_items (listed b)
shown_by_levels b =
    sym (items_in b (listed b) (map_of.entries (stack b)) (map_of.entries_sorted (stack b))
    (λ q v f. sym (some_ranked q.rank v (map_of.get b q.id)
    (sym f ∙ sym (map_of.get-entries (stack b) q) ∙ get-stack b q.rank q.id))))
