use Rattle.std.proofs.Common.{◌∙◌, sym, ap, length, take, rules}
use Rattle.std.proofs.lemmas.List.{append-nil}
use Rattle.gd_outside.proofs.ToldLemmas.{grows_then}
use Rattle.gd_rejoin.proofs.CallLemmas.{called_as, called_then, stay_then}
use Rattle.gd_rejoin.proofs.ReadLemmas.{read-more}
use Rattle.gd_rejoin.proofs.contents.front_of.Goals as goal

pub reads-preserved : goal.reads-preserved
reads-preserved g c =
    let read = c.read_at.ensures in
    let before = c.reads.invariant in
    record {
      whole = read.buffer ∙ before.whole;
      bytes = λ is_told.
          read-more c.reads.front.items c.extend_from_slice.new.self.items c.read_at.new.buf _ c.in_ok-count.count _
          (search rules)
          (before.bytes (read.stay.contents.was is_told)
          ∙ ap (λ l. take (length c.reads.front.items) l) (sym (read.stay.contents.now is_told ∙ append-nil _)))
          (c.in_ok-count.ensures.bytes is_told) (search rules) c.in_ok-count.ensures.size;
      stay = stay_then before.stay read.stay;
      name = grows_then before.name read.name;
      called = called_as (λ failed. absurd failed) (called_then before.called c.in_ok-count.ensures.called);
    }
