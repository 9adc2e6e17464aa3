use Rattle.std.proofs.Common.{arith, sym, ◌∙◌}
use Rattle.gd_member.proofs.sending.is_other.Goals as goal

pub returns-clause-yes : goal.returns-clause-yes
returns-clause-yes c is = record {
  from = c.if-to-lt1.false;
  to = omega (arith, c.if-to-sites.false, c.sites.ensures.sites);
  other = λ mine. c.if-to-me.false (mine ∙ sym c.me.ensures.me);
}
