use Rattle.std.proofs.Common.{◌≡◌, ◌-◌, length, take}
use Rattle.std.specs.Prelude.{IsSome}
use Rattle.gd_outside.specs.Called.{ContentsStay, JournalCalled}
use Rattle.gd_outside.specs.Told.{told, Stays}
use Rattle.gd_rejoin.proofs.contents.front_of.Given as goal

abbrev pub invariant-reads : goal.invariant-reads
invariant-reads g l = record {
  whole : length l.buffer ≡ 16384;
  bytes : IsSome (g.J.Journal.seen l.journal).contents
      → l.front.items ≡ take (length l.front.items) (told (g.J.Journal.seen l.journal).contents);
  stay : ContentsStay (g.J.Journal.seen l.fn.journal) (g.J.Journal.seen l.journal);
  name : Stays (g.J.Journal.seen l.fn.journal).name (g.J.Journal.seen l.journal).name;
  called : JournalCalled (g.J.Journal.seen l.fn.journal) (g.J.Journal.seen l.journal) ⊥;
}

abbrev pub decreases-reads : goal.decreases-reads
decreases-reads g l = l.most - length l.front.items
