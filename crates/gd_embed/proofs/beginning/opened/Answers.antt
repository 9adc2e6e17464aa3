use Rattle.std.proofs.Common.{arith, refl}
use Rattle.gd_embed.proofs.Opened.{opened_boxed}
use Rattle.gd_embed.proofs.beginning.opened.Goals as goal

pub returns-in-Ok-open : goal.returns-in-Ok-open
returns-in-Ok-open g c =
    opened_boxed c.args.session
    (record { old = c.args.why.now; new = c.args.why.now; needed = c.args.needed.now })
    (record {
      from = omega (arith, c.if-me-lt1.false);
      to = omega (arith, c.if-sites-me.false);
      few = omega (arith, c.if-sites-gt-SITES.false);
    })
    c.in-Ok.ensures refl c.in-Ok-open.ensures.opened c.boxed.result c.boxed.ensures
