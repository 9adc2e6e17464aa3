use Rattle.std.proofs.Common.{subst}
use Rattle.std.specs.Prelude.{IfOk}
use Rattle.gd_events.specs.Ordered.{ordered}
use Rattle.gd_history.specs.Holding.{Holds}
use Rattle.gd_model.specs.Arrivals.{all_drawn, costs}
use Rattle.gd_model.specs.Board.{Board}
use Rattle.gd_drawing.specs.Rules.{drawing_rules}
use Rattle.gd_slots.specs.Slots.{board_of}
use Rattle.gd_arriving.proofs.ArrivalLemmas.{paid_none}
use Rattle.gd_log.proofs.arriving.arrived_empty.Goals as goal

pub returns-clause-history : goal.returns-clause-history
returns-clause-history g c =
    subst (λ (start : Board). IfOk c.arrived.result
    (λ x. Holds drawing_rules board_of start (all_drawn (ordered c.args.events)) 0 x.0))
    c.in_ok-empty.ensures.board c.arrived.ensures.history

pub returns-in_err-empty-clause-err : goal.returns-in_err-empty-clause-err
returns-in_err-empty-clause-err g c = paid_none c.from_residual.result (costs c.args.events) c.args.steps.now
