use Rattle.std.proofs.Common.{◌<◌, arith}
use Rattle.gd_stable.proofs.Found.{skipped_room, skipped, pushed_room, pushed}
use Rattle.gd_stable.proofs.outbox.put_above.Goals as goal

pub returns-then-number-k-clause-room : goal.returns-then-number-k-clause-room
returns-then-number-k-clause-room c =
    skipped_room c.args.k c.args.found.now c.args.event.now (omega (arith, c.if-number-k.true, c.number.ensures))

pub returns-then-number-k-clause-events : goal.returns-then-number-k-clause-events
returns-then-number-k-clause-events c =
    skipped c.args.k c.args.found.now c.args.event.now (omega (arith, c.if-number-k.true, c.number.ensures))

pub returns-clause-room : goal.returns-clause-room
returns-clause-room c =
    let above : c.args.k < c.args.event.now.number = omega (arith, c.if-number-k.false, c.number.ensures) in
    pushed_room c.args.k c.args.found.now c.args.event.now c.push.result above c.push.ensures.room

pub returns-clause-events : goal.returns-clause-events
returns-clause-events c =
    let above : c.args.k < c.args.event.now.number = omega (arith, c.if-number-k.false, c.number.ensures) in
    pushed c.args.k c.args.found.now c.args.event.now c.push.result c.push.new.self above c.push.ensures.events
