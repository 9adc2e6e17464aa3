-- The order of ranks, and of the places in the stack. Every Low lies below every High. Of two Low the greater stamp is
-- lower, of two High the greater stamp is higher.
use Rattle.std.specs.Prelude.{Bool}
use Rattle.std.specs.Ordering.{then_cmp, on, eq_by_cmp, is_lt}
use Rattle.std.specs.declared.cmp.Ordering.{Ordering}
use Rattle.std.specs.declared.cmp.Ordering.TheVariants.{Less, Greater}
use Rattle.gd_base.specs.Stamps.{Stamp, stamp_cmp}
use Rattle.gd_base.specs.declared.rank.Rank.{Rank}
use Rattle.gd_base.specs.declared.rank.Rank.TheVariants.{Low, High}
use Rattle.gd_base.specs.declared.rank.Level.{Level}

unfoldable pub rank_cmp : Rank → Rank → Ordering
rank_cmp (Low s) (Low t) = stamp_cmp t s
rank_cmp (Low s) (High t) = Less
rank_cmp (High s) (Low t) = Greater
rank_cmp (High s) (High t) = stamp_cmp s t

abbrev pub is_same_rank : Rank → Rank → Bool
is_same_rank q r = eq_by_cmp rank_cmp q r

-- the stamp of the event that gave the rank
abbrev pub given_at : Rank → Stamp
given_at (Low s) = s
given_at (High s) = s

abbrev pub level : Rank → Stamp → Level
level rank id = record { rank = rank; id = id }

-- by rank, then by id
unfoldable pub level_cmp : Level → Level → Ordering
level_cmp = then_cmp (on (λ l. l.rank) rank_cmp) (on (λ l. l.id) stamp_cmp)

abbrev pub is_below : Level → Level → Bool
is_below l m = is_lt (level_cmp l m)
