-- The items linked by their places: the first one of each group, and behind each item the next one of its group.
use Rattle.std.specs.Prelude.{ℕ, suc, Bool, if◌then◌else◌, List, [], ◌∷◌, Option, None, Some, is_none}
use Rattle.indexmap.specs.IndexMap as index_map
use Rattle.gd_base.specs.Stamps.{is_same}
use Rattle.gd_base.specs.Stamps.{Stamp}
use Rattle.gd_base.specs.declared.item.Item.{Item}
use Rattle.gd_model.specs.Shown.{is_parent}
use Rattle.gd_view.specs.declared.firsts.Firsts.{Firsts}

-- two items with these parents are in one group, or both at the top
abbrev pub same_parent : Option Stamp → Option Stamp → Bool
same_parent None q = is_none q
same_parent (Some p) q = is_parent p q

-- the place of the first item with that parent, where the list begins at the place k
unfoldable pub first_from : ℕ → Option Stamp → List Item → Option ℕ
first_from k p [] = None
first_from k p (i ∷ es) = if same_parent p i.parent then Some k else first_from (suc k) p es

-- for each item the place of the next one with its parent
unfoldable pub nexts_from : ℕ → List Item → List (Option ℕ)
nexts_from k [] = []
nexts_from k (i ∷ es) = first_from (suc k) i.parent es ∷ nexts_from (suc k) es

-- the place that is kept for the items with that parent
abbrev pub first_in : Firsts → Option Stamp → Option ℕ
first_in f None = f.top
first_in f (Some p) = index_map.get is_same f.groups p
