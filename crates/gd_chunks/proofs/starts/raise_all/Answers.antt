use Rattle.gd_chunks.proofs.Summed.{AreRaised-upto}
use Rattle.gd_chunks.proofs.starts.raise_all.Goals as goal

pub returns : goal.returns
returns c =
    let loop = c.loop-at.invariant in
    AreRaised-upto c.args.numbers.now c.loop-at.numbers c.args.from c.args.to c.loop-at.at c.loop-at-test.false
    c.loop-at.auto.at-end loop.idle loop.raised
