use Rattle.std.proofs.Common.{arith}
use Rattle.gd_watch.proofs.ItemLemmas.{all_there, no_length, too_few, too_long}
use Rattle.gd_watch.proofs.items.front.Goals as goal

pub returns-in_default : goal.returns-in_default
returns-in_default c left room some
    = no_length left c.args.bytes.now _ (rw c.new-rest.ensures at c.in_default.ensures) (λ some. room)

pub returns-then-count-gt-FRAME_BYTES : goal.returns-then-count-gt-FRAME_BYTES
returns-then-count-gt-FRAME_BYTES c left room some =
    too_long left c.args.bytes.now c.in-Ok.count _ (rw c.new-rest.ensures at c.in-Ok.ensures) room
    (omega (arith, c.from-count.ensures, c.if-count-gt-FRAME_BYTES.true))

pub returns-then-len-count : goal.returns-then-len-count
returns-then-len-count c left room some =
    too_few left c.args.bytes.now c.in-Ok.count _ (rw c.new-rest.ensures at c.in-Ok.ensures) room
    (omega (arith, c.from-count.ensures, c.if-count-gt-FRAME_BYTES.false))
    (omega (arith, c.from-count.ensures, c.len.ensures, c.if-len-count.true))

pub returns : goal.returns
returns c left room some =
    rw c.from-count.ensures
    (all_there left c.args.bytes.now c.in-Ok.count _ (rw c.new-rest.ensures at c.in-Ok.ensures) room
    (omega (arith, c.from-count.ensures, c.if-count-gt-FRAME_BYTES.false))
    (omega (arith, c.from-count.ensures, c.len.ensures, c.if-len-count.false)))
