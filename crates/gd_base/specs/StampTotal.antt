-- The order of stamps is total, and only equal stamps tie. Impls cite this, so it stands here and not in proofs/.
use Rattle.std.proofs.Common.{◌≡◌, refl, sym}
use Rattle.std.specs.Ordering.{nat_cmp, ordering_then}
use Rattle.std.specs.declared.cmp.Ordering.{Ordering}
use Rattle.std.specs.declared.cmp.Ordering.TheVariants.{Less, Equal, Greater}
use Rattle.std.specs.Cmp.{IsTotalOrder, then_total, on_total, nat_cmp_total, ranked}
use Rattle.std.specs.FinMap.{IsAntisymmetric}
use Rattle.gd_base.specs.Stamps.{Stamp, stamp_cmp}

pub stamp_cmp-total : IsTotalOrder stamp_cmp
unfolding stamp_cmp
stamp_cmp-total = then_total (on_total (λ (s : Stamp). s.clock) nat_cmp_total)
    (on_total (λ (s : Stamp). s.site) nat_cmp_total)

both_equal : (a b : Ordering) → ordering_then a b ≡ Equal → (a ≡ Equal) × (b ≡ Equal)
both_equal Less b e = cc
both_equal Equal b e = (refl, e)
both_equal Greater b e = cc

pub stamp_cmp-IsAntisymmetric : IsAntisymmetric stamp_cmp
unfolding stamp_cmp
stamp_cmp-IsAntisymmetric s t e =
    let both = both_equal (nat_cmp s.clock t.clock) (nat_cmp s.site t.site) e in
    let clocks = ranked s.clock t.clock Equal (sym both.0) in
    let sites = ranked s.site t.site Equal (sym both.1) in
    λ i. record { clock = clocks i; site = sites i }
