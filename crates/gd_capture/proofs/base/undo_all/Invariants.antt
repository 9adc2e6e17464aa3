use Rattle.std.proofs.Common.{◌≡◌, ◌+◌, ◌≤◌, length}
use Rattle.std.specs.Prelude.{IsTrue}
use Rattle.gd_canvas.specs.Slots.{is_admitted}
use Rattle.gd_slots.specs.Slots.{board_of}
use Rattle.gd_history.specs.Entries.{AllOf, events_of}
use Rattle.gd_capture.proofs.Undoing.{undone_to}
use Rattle.gd_capture.proofs.base.undo_all.Given as goal

abbrev pub invariant-undoing : goal.invariant-undoing
invariant-undoing g l = record {
  within : l.left ≤ length l.entries;
  board : board_of l.canvas ≡ undone_to l.entries l.left (board_of l.fn.canvas);
  admitted : AllOf (λ e. IsTrue (is_admitted e.stamp e.op l.canvas)) (events_of l.entries);
  spent : l.steps + l.left ≡ l.fn.steps + length l.entries;
}

abbrev pub decreases-undoing : goal.decreases-undoing
decreases-undoing g l = l.left
