use Rattle.std.proofs.Common.{◌+◌, ◌≤◌, drop}
use Rattle.gd_logs.proofs.StreamLemmas.{take-skipped, fits-ahead}
use Rattle.gd_handover.proofs.ahead.Ahead.skip.Goals as goal

pub returns : goal.returns
returns c =
    let fits = rw (← c.self.view_is) at c.requires in
    let in_order : c.self.inside.start
    + c.args.count ≤ c.self.inside.end
    = fits-ahead c.self.inside.start c.self.inside.end c.args.count (drop c.self.inside.start c.self.inside.bytes)
    c.self.invariant.0 fits in
    rw (← c.self.view_is) (take-skipped c.self.inside.start c.self.inside.end c.args.count c.self.inside.bytes in_order)
