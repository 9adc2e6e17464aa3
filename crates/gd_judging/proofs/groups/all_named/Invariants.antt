use Rattle.std.proofs.Common.{◌≡◌, drop, map, length}
use Rattle.std.specs.Prelude.{option_map}
use Rattle.gd_slots.specs.Slots.{board_of}
use Rattle.gd_model.specs.Board.{listed}
use Rattle.gd_reference.specs.Judging.{target, targets}
use Rattle.gd_judging.specs.Targets.{as_named}
use Rattle.gd_judging.proofs.Grouping.{behind}
use Rattle.gd_judging.proofs.groups.all_named.Given as goal

abbrev pub invariant-loop-id : goal.invariant-loop-id
invariant-loop-id l = record {
  found : behind l.all.items (targets (target (listed (board_of l.fn.canvas))) (drop l.id-index l.fn.ids))
      ≡ option_map (map as_named) (targets (target (listed (board_of l.fn.canvas))) l.fn.ids);
  taken : length l.all.items ≡ l.id-index;
}
