use Rattle.std.proofs.Common.{◌≤◌, ◌*◌}
use Rattle.gd_member.proofs.Texts.{AreSaid}
use Rattle.gd_reference.specs.SlowSite.{SlowSite}
use Rattle.gd_site.specs.Sites.{StandsFor}
use Rattle.gd_member.proofs.asking.say_who.Given as goal

abbrev pub invariant-loop-before : goal.invariant-loop-before
invariant-loop-before l = record {
  said : (slow : SlowSite) → StandsFor slow l.fn.site → AreSaid slow l.before l.count l.fn.said l.said;
  few : l.count ≤ 2 * l.before;
}
