use Rattle.gd_history.proofs.Recent.{none-behind}
use Rattle.gd_history.proofs.index.next_recent.Goals as goal

pub returns-clause-first : goal.returns-clause-first
returns-clause-first c s behind has =
    none-behind c.args.latest c.args.floor c.args.list.now c.args.key s c.requires
    (rw c.is_before.ensures at c.if-is_before.false) behind has
