use Rattle.std.proofs.Common.{IfNone, Option, None, Some}
use Rattle.gd_history.specs.declared.waiter.Waiter.{Waiter}
use Rattle.gd_history.proofs.Waited.{first-behind}
use Rattle.gd_history.proofs.waiting.Waiting.reached.Goals as goal

pub returns-in-Some-clause-none : goal.returns-in-Some-clause-none
returns-in-Some-clause-none c =
    rw (← c.self.view_is)
    (all_behind c.unless_behind.result
    (first-behind c.args.floor c.in-Some.first.now c.self.inside.waiters.data.items
    (c.in-Some.ensures.greatest c.self.invariant)) c.unless_behind.ensures.none)
  where
    all_behind : {P Q : Type 0} (o : Option Waiter) → (P → Q) → IfNone o P → IfNone o Q
    all_behind None f h = f h
    all_behind (Some w) f h = h
