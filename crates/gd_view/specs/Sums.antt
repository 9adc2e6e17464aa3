-- What stands above all objects, gathered from the greatest id to the least.
use Rattle.std.specs.Prelude.{◌≡◌, Option, None, Some, IfSome}
use Rattle.std.specs.Option.{option_flatten}
use Rattle.std.specs.FinMap as map_of
use Rattle.indexmap.specs.IndexMap as index_map
use Rattle.gd_base.specs.declared.ranges.TheConstants.{SESSION_EVENTS}
use Rattle.gd_base.specs.Stamps.{stamp_cmp, is_same}
use Rattle.gd_base.specs.Stamps.{Stamp}
use Rattle.gd_base.specs.Whole.{Object}
use Rattle.gd_model.specs.Drawing.{Drawing}
use Rattle.gd_model.specs.Shown.{above}
use Rattle.gd_model.specs.declared.above.Above.{Above}
use Rattle.gd_view.specs.declared.known.Known.{Known}
use Rattle.gd_view.specs.Chains.{Within}

-- the sum that is kept for an id
abbrev pub known : Known → Stamp → Option Above
known k q = option_flatten (index_map.get is_same k.sums q)

-- what stands above an object of that id, where it is there and not hidden
abbrev pub above_of : Drawing → Stamp → Option Object → Option Above
above_of d q None = None
above_of d q (Some g) = above d q g.link

-- what stands above the object of that id in the drawing, where it is there and not hidden
abbrev pub above_at : Drawing → Stamp → Option Above
above_at d q = above_of d q (map_of.find stamp_cmp q d)

-- the sums of all objects are kept
pub record AreKnown (d : Drawing) (k : Known) : Type 0 where
  pub are : (q : Stamp) → known k q ≡ above_at d q
  pub within : (q : Stamp) → IfSome (known k q) (λ a. Within SESSION_EVENTS a)
