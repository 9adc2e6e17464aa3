-- The order of waiters: the earliest one is the greatest. The type's impls cite this, so it stands here.
use Rattle.std.specs.declared.cmp.Ordering.{Ordering}
use Rattle.std.specs.Cmp.{IsTotalOrder, on_total, back_total}
use Rattle.gd_base.specs.Stamps.{stamp_cmp}
use Rattle.gd_base.specs.StampTotal.{stamp_cmp-total}
use Rattle.gd_history.specs.declared.waiter.Waiter.{Waiter}

-- of two waiters the one with the later stamp is the lesser
abbrev pub waiter_cmp : Waiter → Waiter → Ordering
waiter_cmp w x = stamp_cmp x.stamp w.stamp

pub waiter_cmp-total : IsTotalOrder waiter_cmp
waiter_cmp-total = on_total (λ (w : Waiter). w.stamp) (back_total stamp_cmp-total)
