use Rattle.gd_member.proofs.Hearing.{none_put, one_put}
use Rattle.gd_member.proofs.taking.add_taken.Goals as goal

pub returns-then-not-taken : goal.returns-then-not-taken
returns-then-not-taken c = none_put c.args.taken c.args.event.now c.args.unwritten.now c.if-not-taken.true

pub returns : goal.returns
returns c =
    one_put c.args.taken c.args.event.now c.args.unwritten.now _ c.if-not-taken.false
    (λ written others are. c.add.ensures written others (c.in_ok-reserve.ensures.stays written others are))
