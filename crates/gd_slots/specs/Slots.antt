-- Slots by stamp, and the board that they hold: a map from ids to the values of the slots that aren't empty.
use Rattle.std.specs.Prelude.{◌≡◌, ℕ, Bool, if◌then◌else◌, List, [], ◌∷◌, ◌++◌, Option, None, Some, map, option_map}
use Rattle.std.specs.Prelude.{slice_get}
use Rattle.std.specs.FinMap as map_of
use Rattle.std.specs.List.{list_any}
use Rattle.indexmap.specs.IndexMap.{insert_entry}
use Rattle.gd_base.specs.Stamps.{Stamp, stamp_cmp, is_same}

abbrev pub Board : Type 0 → Type 0
Board V = map_of.FinMap stamp_cmp V

abbrev pub put_at : {V : Type 0} → Board V → Stamp → Option V → Board V
put_at b id None = map_of.remove b id
put_at b id (Some v) = map_of.insert b id v

-- the board with the value of that id changed by f, where it is there
abbrev pub change_at : {V : Type 0} → Board V → Stamp → (V → V) → Board V
change_at b id f = put_at b id (option_map f (map_of.get b id))

-- a slot for each id, which is empty where nothing has that id
abbrev pub Slots : Type 0 → Type 0
Slots V = List (Stamp × Option V)

-- the board that the slots hold
unfoldable pub board_of : {V : Type 0} → Slots V → Board V
board_of [] = map_of.empty
board_of (e ∷ es) = put_at (board_of es) e.0 e.1

-- the ids of the slots
abbrev pub ids : {V : Type 0} → Slots V → List Stamp
ids es = map (λ e. e.0) es

-- there is a slot of that id
abbrev pub has_slot : {V : Type 0} → Stamp → Slots V → Bool
has_slot id es = list_any (is_same id) (ids es)

-- the ids with that one behind them, unless it is among them
abbrev pub with_id : Stamp → List Stamp → List Stamp
with_id id all = if list_any (is_same id) all then all else all ++ id ∷ []

-- the slots with that one, where there is one, behind them; where its id has a slot, it goes in there
abbrev pub pushed : {V : Type 0} → Option (Stamp × Option V) → Slots V → Slots V
pushed None es = es
pushed (Some e) es = insert_entry is_same es e.0 e.1

-- the value of a slot with its id, where there is such a slot and it isn't empty
abbrev pub value_of : {V : Type 0} → Option (Stamp × Option V) → Option (Stamp × V)
value_of None = None
value_of (Some (id, None)) = None
value_of (Some (id, Some v)) = Some (id, v)

-- the value of the slot at the index k, with its id
abbrev pub value_at : {V : Type 0} → Slots V → ℕ → Option (Stamp × V)
value_at es k = value_of (slice_get es k)

-- the value of that id is that of exactly one slot
pub record OneSlot {V : Type 0} (es : Slots V) (id : Stamp) (v : V) : Type 0 where
  pub index : ℕ
  pub there : value_at es index ≡ Some (id, v)
  pub only : (k : ℕ) (w : V) → value_at es k ≡ Some (id, w) → k ≡ index
