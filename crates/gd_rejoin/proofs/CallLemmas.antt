-- Calls on one journal, one after another.
use Rattle.std.proofs.Common.{◌∙◌, arith}
use Rattle.gd_outside.specs.Called.{ContentsStay, JournalCalled}
use Rattle.gd_outside.specs.Seen.{SeenJournal}
use Rattle.gd_outside.proofs.ToldLemmas.{grows_then}

pub called_then : {a b c : SeenJournal} {F G : Type 0} → JournalCalled a b F → JournalCalled b c G → JournalCalled a c G
called_then h k = record {
  was = λ told. h.was (k.was told);
  name_was = λ told. h.name_was (k.name_was told);
  time = omega (arith, h.time, k.time);
  count = omega (arith, h.count, k.count);
  cause = λ failed. omega (arith, h.count, k.cause failed);
}

-- the same where a failure is told in other words
pub called_as : {a b : SeenJournal} {F G : Type 0} → (G → F) → JournalCalled a b F → JournalCalled a b G
called_as f h = record
    { was = h.was; name_was = h.name_was; time = h.time; count = h.count; cause = λ failed. h.cause (f failed) }

pub stay_then : {a b c : SeenJournal} → ContentsStay a b → ContentsStay b c → ContentsStay a c
stay_then h k = record {
  contents = grows_then h.contents k.contents;
  images = λ told. k.images told ∙ h.images (k.contents.was told);
}
