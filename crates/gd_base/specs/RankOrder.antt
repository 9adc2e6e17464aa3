-- The order of ranks is total, and only equal ranks tie. The types' impls cite this, so it stands here and not in
-- proofs/.
use Rattle.std.proofs.Common.{◌≡◌, refl, sym, ap}
use Rattle.std.proofs.lemmas.Bool.{false≢true}
use Rattle.std.specs.FinMap.{IsAntisymmetric}
use Rattle.std.specs.Ordering.{is_eq, is_lt, ordering_reverse}
use Rattle.std.specs.declared.cmp.Ordering.TheVariants.{Less}
use Rattle.std.specs.Cmp.{IsTotalOrder}
use Rattle.gd_base.specs.StampTotal.{stamp_cmp-total, stamp_cmp-IsAntisymmetric}
use Rattle.gd_base.specs.declared.rank.Rank.{Rank}
use Rattle.gd_base.specs.declared.rank.Rank.TheVariants.{Low, High}
use Rattle.gd_base.specs.Ranks.{rank_cmp}

rank-antisymm : (q r : Rank) → rank_cmp q r ≡ ordering_reverse (rank_cmp r q)
unfolding rank_cmp
rank-antisymm (Low s) (Low t) = stamp_cmp-total.antisymm t s
rank-antisymm (Low s) (High t) = refl
rank-antisymm (High s) (Low t) = refl
rank-antisymm (High s) (High t) = stamp_cmp-total.antisymm s t

rank-trans : (q r u : Rank) → rank_cmp q r ≡ Less → rank_cmp r u ≡ Less → rank_cmp q u ≡ Less
unfolding rank_cmp
rank-trans (Low s) (Low t) (Low u) a b = stamp_cmp-total.trans u t s b a
rank-trans (Low s) q (High u) a b = refl
rank-trans (Low s) (High t) (Low u) a b = absurd (false≢true (ap is_lt b))
rank-trans (High s) (Low t) u a b = absurd (false≢true (ap is_lt a))
rank-trans (High s) (High t) (Low u) a b = absurd (false≢true (ap is_lt b))
rank-trans (High s) (High t) (High u) a b = stamp_cmp-total.trans s t u a b

-- only equal ranks tie
pub rank_cmp-IsAntisymmetric : IsAntisymmetric rank_cmp
unfolding rank_cmp
rank_cmp-IsAntisymmetric (Low s) (Low t) e = ap Low (sym (stamp_cmp-IsAntisymmetric t s e))
rank_cmp-IsAntisymmetric (Low s) (High t) e = absurd (false≢true (ap is_eq e))
rank_cmp-IsAntisymmetric (High s) (Low t) e = absurd (false≢true (ap is_eq e))
rank_cmp-IsAntisymmetric (High s) (High t) e = ap High (stamp_cmp-IsAntisymmetric s t e)

pub rank_cmp-total : IsTotalOrder rank_cmp
rank_cmp-total = record {
  antisymm = rank-antisymm;
  trans = rank-trans;
  congr = λ q r u e. ap (λ x. rank_cmp x u) (rank_cmp-IsAntisymmetric q r e);
}
