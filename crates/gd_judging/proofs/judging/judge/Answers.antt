use Rattle.std.proofs.Common.{List, subst}
use Rattle.gd_base.specs.Stamps.{Stamp}
use Rattle.gd_slots.specs.Slots.{board_of}
use Rattle.gd_model.specs.Board.{listed}
use Rattle.gd_reference.specs.Judging.{target, targets, with_targets}
use Rattle.gd_judging.specs.Faults.{EditIs}
use Rattle.gd_judging.proofs.judging.judge.Goals as goal

pub returns-in-Group : goal.returns-in-Group
returns-in-Group c =
    rw c.in-Group.is
    (subst
    (λ (ids : List Stamp). EditIs (with_targets (targets (target (listed (board_of c.args.canvas.now))) ids))
    c.group.result)
    c.as_slice.ensures.items c.group.ensures)
