use Rattle.std.proofs.Common.{arith}
use Rattle.gd_site.proofs.Offered.{counts-more}
use Rattle.gd_site.proofs.foreseen.Foreseen.parts.Goals as goal

pub returns-then-events-from : goal.returns-then-events-from
returns-then-events-from c =
    counts-more c.args.self c.args.events.now c.args.head (omega (arith, c.from.ensures, c.saturating_sub.ensures))
