use Rattle.gd_program.proofs.Carried.{carried_as, carried_board, carried_churn, carried_node, carried_rehearse}
use Rattle.gd_program.proofs.Carried.{carried_rejoin, carried_replay, carried_snapshot, carried_upgrade, carried_view}
use Rattle.gd_program.proofs.Carried.{named_node, named_rejoin}
use Rattle.gd_program.proofs.running.carry_out.Goals as goal

pub returns-in-Replay : goal.returns-in-Replay
returns-in-Replay g c =
    carried_as c.in-Replay.is (carried_replay _ _ c.replay.result c.replay.ensures.kinds c.replay.ensures.silent _ _ _
    c.replay.ensures.unread (c.replay.ensures.ends _ _))

pub returns-in-Upgrade : goal.returns-in-Upgrade
returns-in-Upgrade g c =
    carried_as c.in-Upgrade.is
    (carried_upgrade _ _ c.upgrade.result c.upgrade.ensures.kinds c.upgrade.ensures.silent
    (c.upgrade.ensures.ends _ _ _))

pub returns-in-Snapshot : goal.returns-in-Snapshot
returns-in-Snapshot g c =
    carried_as c.in-Snapshot.is
    (carried_snapshot _ _ c.snapshot.result c.snapshot.ensures.kinds c.snapshot.ensures.silent
    c.snapshot.ensures.unread (c.snapshot.ensures.ends _ _))

pub returns-in-View : goal.returns-in-View
returns-in-View g c =
    carried_as c.in-View.is (carried_view _ _ c.view.result c.view.ensures.kinds (c.view.ensures.ends _ _))

pub returns-in-Board : goal.returns-in-Board
returns-in-Board g c =
    carried_as c.in-Board.is
    (carried_board _ _ c.board.result c.board.ensures.kinds c.board.ensures.silent _ c.board.ensures.unread
    (c.board.ensures.ends _ _))

pub returns-in-Node : goal.returns-in-Node
returns-in-Node g c =
    carried_as (named_node _ _ _ _ c.in-Node.is c.new-config.ensures)
    (carried_node _ _ _ c.serve.result c.serve.ensures.kinds c.serve.ensures.named c.serve.ensures.keeps
    c.serve.ensures.holds c.serve.ensures.left c.serve.ensures.untouched c.serve.ensures.ends)

pub returns-in-Rejoin : goal.returns-in-Rejoin
returns-in-Rejoin g c =
    carried_as (named_rejoin _ _ _ _ c.in-Rejoin.is c.new-config-in-Rejoin.ensures)
    (carried_rejoin _ _ _ c.rejoin.result c.rejoin.ensures.kinds c.rejoin.ensures.named c.rejoin.ensures.keeps
    c.rejoin.ensures.holds c.rejoin.ensures.left c.rejoin.ensures.untouched c.rejoin.ensures.ends)

pub returns-in-Rehearse : goal.returns-in-Rehearse
returns-in-Rehearse g c =
    carried_as c.in-Rehearse.is
    (carried_rehearse _ _ c.rehearse.result _ c.rehearse.ensures.kinds (c.rehearse.ensures.ends _ _))

pub returns-in-Churn : goal.returns-in-Churn
returns-in-Churn g c =
    carried_as c.in-Churn.is
    (carried_churn _ _ _ c.churn.result _ _ c.churn.ensures.kinds c.churn.ensures.silent
    (c.churn.ensures.ends _ _ _))
