use Rattle.std.proofs.Common.{◌≤◌, ◌-◌, ◌+◌, length}
use Rattle.gd_member.proofs.Judgings.{SoFar}
use Rattle.gd_reference.specs.SlowSite.{SlowSite}
use Rattle.gd_site.specs.Sites.{StandsFor}
use Rattle.gd_takeback.specs.Making.{making}
use Rattle.gd_member.proofs.gestures.judge_lines.Given as goal

abbrev pub invariant-lines : goal.invariant-lines
invariant-lines g l = record {
  judged : (slow : SlowSite) → StandsFor slow l.fn.site
      → SoFar slow l.fn.lines l.start l.count (making l.site l.gesture) l.fn.said l.said l.fn.steps l.steps;
  few : l.count ≤ l.start;
  within : l.start ≤ length l.fn.lines + 1;
}

abbrev pub decreases-lines : goal.decreases-lines
decreases-lines g l = length l.fn.lines - l.start
