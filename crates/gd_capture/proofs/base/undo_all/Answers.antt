use Rattle.std.proofs.Common.{◌≡◌, ◌+◌, ◌-◌, ◌∙◌, ap, arith}
use Rattle.std.specs.Prelude.{IsTrue}
use Rattle.gd_base.proofs.Lists.{Every-weaker}
use Rattle.gd_canvas.specs.Slots.{is_admitted}
use Rattle.gd_slots.specs.Slots.{board_of}
use Rattle.gd_events.specs.Ops.{Op}
use Rattle.gd_history.proofs.Reworking.{admitted_here}
use Rattle.gd_history.specs.Entries.{events_of}
use Rattle.gd_repair.specs.Repair.{Stamped}
use Rattle.gd_capture.proofs.Undoing.{undone_more, undone_to}
use Rattle.gd_capture.proofs.base.undo_all.Goals as goal

pub undo-requires : goal.undo-requires
undo-requires g c =
    let was = c.undoing.invariant in
    admitted_here (λ (e : Stamped Op). IsTrue (is_admitted e.stamp e.op c.undoing.canvas)) c.args.entries.now
    (c.undoing.left - 1) c.get.result.now was.admitted (omega (arith, was.within, c.undoing-test.true))
    c.get.ensures

pub undoing-preserved : goal.undoing-preserved
undoing-preserved g c =
    let was = c.undoing.invariant in
    let done = c.in_ok-undo.ensures in
    let xs = c.args.entries.now in
    let start = board_of c.args.canvas.now in
    let left : c.undoing.left ≡ c.undoing.left - 1 + 1 = omega (arith, c.undoing-test.true) in
    record {
      within = omega (arith, was.within);
      board =
          undone_more xs (c.undoing.left - 1) c.get.result.now start (board_of c.undoing.canvas)
          (board_of c.undo.new.canvas) (omega (arith, was.within, c.undoing-test.true)) c.get.ensures
          (was.board ∙ ap (λ n. undone_to xs n start) left) done.board;
      admitted = Every-weaker _ (λ (e : Stamped Op). IsTrue (is_admitted e.stamp e.op c.undo.new.canvas))
          c.undo.ensures.kept (events_of xs) was.admitted;
      spent = omega (arith, was.spent, done.step, left);
    }
