use Rattle.gd_node.proofs.Hearing.{none_put, one_put}
use Rattle.gd_node.proofs.arriving.add_record.Goals as goal

pub returns-then-not-taken : goal.returns-then-not-taken
returns-then-not-taken c = none_put c.args.taken c.args.event.now c.args.records.now c.if-not-taken.true

pub returns : goal.returns
returns c = one_put c.args.taken c.args.event.now _ c.args.records.now _ c.if-not-taken.false c.add.ensures
