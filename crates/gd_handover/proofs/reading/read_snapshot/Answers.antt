use Rattle.gd_handover.proofs.WholeLemmas.{whole-exact, whole-cut}
use Rattle.gd_handover.proofs.reading.read_snapshot.Goals as goal

pub returns-clause-exact : goal.returns-clause-exact
returns-clause-exact g c
    = whole-exact c.read_parts.result (rw c.new-reader.ensures at c.read_parts.ensures.part) c.read_parts.ensures.few

pub returns-clause-cut : goal.returns-clause-cut
returns-clause-cut g c = whole-cut c.read_parts.result (rw c.new-reader.ensures at c.read_parts.ensures.part)

pub returns-clause-called : goal.returns-clause-called
returns-clause-called g c = c.read_parts.ensures.part.called
