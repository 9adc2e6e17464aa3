use Rattle.std.proofs.Common.{◌≡◌, drop, map}
use Rattle.std.specs.Prelude.{None}
use Rattle.gd_events.specs.Sound.{rise_above}
use Rattle.gd_events.proofs.rules.are_rising.Given as goal

abbrev pub invariant-loop-item : goal.invariant-loop-item
invariant-loop-item g l = rise_above l.last (map g.N.Naming.name (drop l.item-index l.fn.items))
    ≡ rise_above None (map g.N.Naming.name l.fn.items)
