-- The board that slots hold, read and written by id.
use Rattle.std.proofs.Common.{◌≡◌, Bool, true, false, cond, ◌||◌, List, [], ◌∷◌, ◌++◌, Option, None, Some, refl, sym}
use Rattle.std.proofs.Common.{ap, ◌∙◌}
use Rattle.std.specs.Prelude.{is_some, unwrap_or}
use Rattle.std.specs.FinMap as map_of
use Rattle.std.specs.List.{list_any}
use Rattle.std.specs.Map.{lookup, set_value}
use Rattle.std.specs.Option.{option_flatten}
use Rattle.std.proofs.lemmas.Bool.{or_left, or_right}
use Rattle.std.proofs.lemmas.List.Folds.{list_any-append}
use Rattle.indexmap.specs.IndexMap.{insert_entry}
use Rattle.gd_base.specs.contracts.stamp.StampPartialEq.TheImpl.{eq-value}
use Rattle.gd_base.specs.Stamps.{Stamp, stamp_cmp, is_same}
use Rattle.gd_base.proofs.StampLemmas.{is_same-true, is_same-refl, is_same-eq}
use Rattle.gd_slots.proofs.Lookups.{get-put_at, put_at-kept, put_at-over, put_at-apart}
use Rattle.gd_slots.specs.Slots.{Board, Slots, put_at, board_of, ids, has_slot, with_id}

-- the equality that the map of slots goes by
pub same_is : eq-value.it ≡ is_same
same_is = λ i s t. is_same-eq s t i

module _ {V : Type 0} where
  -- ---- reading

  pub get-step : (e : Stamp × Option V) (es : Slots V) (q : Stamp)
      → map_of.get (board_of (e ∷ es)) q ≡ cond (is_same q e.0) e.1 (map_of.get (board_of es) q)
  unfolding board_of
  get-step e es q = get-put_at (board_of es) e.0 e.1 q

  pub get-none : (q : Stamp) → map_of.get (board_of {V = V} []) q ≡ None
  unfolding board_of
  get-none q = map_of.get-empty stamp_cmp q

  flat : (b : Bool) (x : Option V) (y : Option (Option V))
      → cond b x (option_flatten y) ≡ option_flatten (cond b (Some x) y)
  flat true x y = refl
  flat false x y = refl

  get-same : (es : Slots V) (q : Stamp) → map_of.get (board_of es) q ≡ option_flatten (lookup (is_same q) es)
  get-same [] q = get-none q
  get-same (e ∷ es) q = get-step e es q ∙ ap (cond (is_same q e.0) e.1) (get-same es q)
      ∙ flat (is_same q e.0) e.1 (lookup (is_same q) es)

  -- what the board returns is what the slot holds
  pub get-slot : (es : Slots V) (q : Stamp) → map_of.get (board_of es) q ≡ option_flatten (lookup (eq-value.it q) es)
  get-slot es q = get-same es q ∙ ap (λ same. option_flatten (lookup (same q) es)) (sym same_is)

  found-same : (es : Slots V) (id : Stamp) → is_some (lookup (is_same id) es) ≡ has_slot id es
  found-same [] id = refl
  found-same (e ∷ es) id
      = elim (is_same id e.0) as (λ t. is_some (cond t (Some e.1) (lookup (is_same id) es)) ≡ (t || has_slot id es))
      [ true ↦ refl | false ↦ found-same es id ]

  -- ---- writing

  board-inserted : (es : Slots V) (id : Stamp) (w : Option V)
      → board_of (insert_entry is_same es id w) ≡ put_at (board_of es) id w
  unfolding board_of
  board-inserted [] id w = refl
  board-inserted (e ∷ es) id w =
      elim (is_same id e.0) as
      (λ t. is_same id e.0 ≡ t
      → board_of (cond t ((e.0, w) ∷ es) (e ∷ insert_entry is_same es id w))
      ≡ put_at (put_at (board_of es) e.0 e.1) id w) [
        | true ↦ λ is. sym (put_at-over (board_of es) e.0 e.1 w)
            ∙ ap (λ k. put_at (put_at (board_of es) e.0 e.1) k w) (sym (is_same-true id e.0 is))
        | false ↦ λ is. ap (λ b. put_at b e.0 e.1) (board-inserted es id w) ∙ put_at-apart (board_of es) id e.0 w e.1 is
      ] refl

  ids-inserted : (es : Slots V) (id : Stamp) (w : Option V) → ids (insert_entry is_same es id w) ≡ with_id id (ids es)
  ids-inserted [] id w = refl
  ids-inserted (e ∷ es) id w =
      elim (is_same id e.0) as
      (λ t. ids (cond t ((e.0, w) ∷ es) (e ∷ insert_entry is_same es id w))
      ≡ cond (t || has_slot id es) (ids (e ∷ es)) (ids (e ∷ es) ++ id ∷ [])) [
        | true ↦ refl
        | false ↦ ap (λ l. e.0 ∷ l) (ids-inserted es id w) ∙ ahead (has_slot id es)
      ]
    where
      ahead : (t : Bool) → e.0 ∷ cond t (ids es) (ids es ++ id ∷ []) ≡ cond t (ids (e ∷ es)) (ids (e ∷ es) ++ id ∷ [])
      ahead true = refl
      ahead false = refl

  set_value-present : (es : Slots V) (id : Stamp) (w : Option V) → has_slot id es ≡ true
      → set_value (is_same id) es w ≡ insert_entry is_same es id w
  set_value-present [] id w h = cc
  set_value-present (e ∷ es) id w h =
      elim (is_same id e.0) as
      (λ t. (t || has_slot id es) ≡ true
      → cond t ((e.0, w) ∷ es) (e ∷ set_value (is_same id) es w)
      ≡ cond t ((e.0, w) ∷ es) (e ∷ insert_entry is_same es id w)) [
        | true ↦ λ there. refl
        | false ↦ λ there. ap (λ l. e ∷ l) (set_value-present es id w there)
      ] h

  -- ---- what a method that lends a slot leaves. es are the entries of the map, and now is the canvas.

  -- the map holds x in the slot of that id
  pub slot_holds : (es now : Slots V) (id : Stamp) (x : Option V) → es ≡ now → Some x ≡ lookup (eq-value.it id) es
      → x ≡ map_of.get (board_of now) id
  slot_holds es now id x view h = ap option_flatten h ∙ sym (get-slot es id) ∙ ap (λ s. map_of.get (board_of s) id) view

  -- the map has no slot of that id
  pub slot_absent : (es now : Slots V) (id : Stamp) → es ≡ now → None ≡ lookup (eq-value.it id) es
      → map_of.get (board_of now) id ≡ None
  slot_absent es now id view h = ap (λ s. map_of.get (board_of s) id) (sym view) ∙ get-slot es id
      ∙ sym (ap option_flatten h)

  -- the slot was there with x in it, and is left with what f makes of x
  pub slot_written : (es now fs : Slots V) (id : Stamp) (x w : Option V) (f : Option V → Option V) → es ≡ now
      → Some x ≡ lookup (eq-value.it id) es
      → fs ≡ set_value (eq-value.it id) es w → w ≡ f x
      → board_of fs ≡ put_at (board_of now) id (f (map_of.get (board_of now) id))
  slot_written es now fs id x w f view h written is =
      let there : has_slot id es ≡ true = sym (found-same es id)
      ∙ ap (λ same. is_some (lookup (same id) es)) (sym same_is) ∙ ap is_some (sym h) in
      ap board_of (written ∙ ap (λ same. set_value (same id) es w) same_is ∙ set_value-present es id w there)
      ∙ board-inserted es id w
      ∙ (λ i. put_at (board_of (view i)) id ((is ∙ ap f (slot_holds es now id x view h)) i))

  -- there was no slot, so nothing changes
  pub slot_missing : (es now fs : Slots V) (id : Stamp) (f : Option V → Option V) → es ≡ now
      → None ≡ lookup (eq-value.it id) es
      → fs ≡ es → f None ≡ None → board_of fs ≡ put_at (board_of now) id (f (map_of.get (board_of now) id))
  slot_missing es now fs id f view h kept none =
      let absent = slot_absent es now id view h in
      ap board_of (kept ∙ view) ∙ sym (put_at-kept (board_of now) id None absent)
      ∙ ap (put_at (board_of now) id) (sym (ap f absent ∙ none))

  -- ---- what an entry leaves, whose slot is made where there is none

  filled_by : (b : Board V) (id : Stamp) (new : V) (x : Option V) → map_of.get b id ≡ x
      → map_of.insert b id (unwrap_or x new) ≡ cond (is_some x) b (map_of.insert b id new)
  filled_by b id new None e = refl
  filled_by b id new (Some o) e = put_at-kept b id (Some o) e

  -- a slot that is filled where it was empty
  pub filled : (b : Board V) (id : Stamp) (new : V)
      → put_at b id (Some (unwrap_or (map_of.get b id) new))
      ≡ cond (map_of.contains_key b id) b (map_of.insert b id new)
  filled b id new = filled_by b id new (map_of.get b id) refl

  flatten-or : (x : Option (Option V)) → unwrap_or x None ≡ option_flatten x
  flatten-or None = refl
  flatten-or (Some y) = refl

  -- the slot holds x, which is None where it is new
  entry_holds : (es now : Slots V) (id : Stamp) (x : Option V) → es ≡ now
      → x ≡ unwrap_or (lookup (eq-value.it id) es) None → x ≡ map_of.get (board_of now) id
  entry_holds es now id x view h = h ∙ flatten-or (lookup (eq-value.it id) es) ∙ sym (get-slot es id)
      ∙ ap (λ s. map_of.get (board_of s) id) view

  -- a slot that is made, or was there, holds what the board had
  pub entry-kept : (es now fs : Slots V) (id : Stamp) (x : Option V) → es ≡ now
      → x ≡ unwrap_or (lookup (eq-value.it id) es) None
      → fs ≡ insert_entry eq-value.it es id x → board_of fs ≡ board_of now
  entry-kept es now fs id x view h written =
      ap board_of written
      ∙ (λ i. board_of (insert_entry (same_is i) (view i) id (entry_holds es now id x view h i)))
      ∙ board-inserted now id (map_of.get (board_of now) id)
      ∙ put_at-kept (board_of now) id (map_of.get (board_of now) id) refl

  -- the slot stands behind the others, unless it was there
  pub entry-ids : (es now fs : Slots V) (id : Stamp) (w : Option V) → es ≡ now → fs ≡ insert_entry eq-value.it es id w
      → ids fs ≡ with_id id (ids now)
  entry-ids es now fs id w view written = ap ids written ∙ (λ i. ids (insert_entry (same_is i) (view i) id w))
      ∙ ids-inserted now id w

  -- a slot that is there is found
  pub no_slot : (es now : Slots V) (id : Stamp) → es ≡ now → None ≡ lookup (eq-value.it id) es → has_slot id now ≡ true
      → ⊥
  no_slot es now id view h there =
      let found : is_some (lookup (is_same id) es) ≡ true = found-same es id ∙ ap (has_slot id) view ∙ there in
      let none : false ≡ is_some (lookup (is_same id) es) = ap is_some (h ∙ ap (λ same. lookup (same id) es) same_is) in
      cc

pub ruleset slot_reads = (get-slot)

-- ---- what is admitted

with_id-new : (t : Bool) (id : Stamp) (all : List Stamp) → list_any (is_same id) all ≡ t
    → list_any (is_same id) (cond t all (all ++ id ∷ [])) ≡ true
with_id-new true id all e = e
with_id-new false id all e = list_any-append (is_same id) all (id ∷ [])
    ∙ or_right (list_any (is_same id) all) _ (or_left _ _ (is_same-refl id))

-- the slot that is made is there
pub with_id-there : (id : Stamp) (all : List Stamp) → list_any (is_same id) (with_id id all) ≡ true
with_id-there id all = with_id-new (list_any (is_same id) all) id all refl
