use Rattle.gd_history.proofs.Recent.{next-left, clear-left}
use Rattle.gd_history.proofs.index.Index.next_over.Goals as goal

pub returns-clause-first : goal.returns-clause-first
returns-clause-first c =
    let inside = c.self.inside in
    rw (← c.self.view_is) (next-left inside.sorted inside.recent.items inside.latest c.args.floor c.self.invariant
    (rw c.is_before.ensures at c.if-is_before.false) c.probe-found.result.0 c.args.key c.probe-found.ensures.first)

pub returns-clause-clear : goal.returns-clause-clear
returns-clause-clear c =
    let inside = c.self.inside in
    rw (← c.self.view_is) (clear-left inside.sorted inside.recent.items inside.latest c.args.floor c.self.invariant
    (rw c.is_before.ensures at c.if-is_before.false) c.args.key c.probe-found.result.1 c.probe-found.ensures.clear)
