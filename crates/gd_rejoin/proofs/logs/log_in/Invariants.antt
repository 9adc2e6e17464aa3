use Rattle.std.proofs.Common.{◌≡◌, ◌-◌, ◌≤◌, length}
use Rattle.std.specs.Prelude.{IsSome}
use Rattle.gd_outside.specs.Called.{ContentsStay, JournalCalled}
use Rattle.gd_outside.specs.Told.{told, Stays}
use Rattle.gd_rejoin.proofs.logs.log_in.Given as goal

abbrev pub invariant-fronts : goal.invariant-fronts
invariant-fronts g l = record {
  some : 1 ≤ l.most;
  size : IsSome (g.J.Journal.seen l.journal).contents → l.size ≡ length (told (g.J.Journal.seen l.journal).contents);
  stay : ContentsStay (g.J.Journal.seen l.fn.journal) (g.J.Journal.seen l.journal);
  name : Stays (g.J.Journal.seen l.fn.journal).name (g.J.Journal.seen l.journal).name;
  called : JournalCalled (g.J.Journal.seen l.fn.journal) (g.J.Journal.seen l.journal) ⊥;
}

abbrev pub decreases-fronts : goal.decreases-fronts
decreases-fronts g l = l.size - l.most
